-- What is answered to the contexts of a bind.
use Rattle.std.specs.Prelude.{◌≡◌, ℕ, zero, suc, ◌+◌, ◌/◌, Bool, true, false, ◌||◌, List, [], ◌∷◌, ◌++◌, ◌<◌, All, length, take, drop}
use Rattle.std.specs.Prelude.{bytes_eq, Option, Some, None, if◌then◌else◌}
use Rattle.std.specs.Coded.{Coded, code_by, coded_bool}
use Rattle.std.proofs.Common.{refl}
use Rattle.std.specs.FinMap as map
use Rattle.std.specs.FinMap.{FinMap}
use Rattle.std.specs.Ordering.{nat_cmp}
use Rattle.std.specs.Borrow.{Bor}
use Rattle.rpc_pdu.specs.declared.reading.Context.{Context}
use Rattle.rpc_session.specs.declared.contexts.TheConstants.{SVCCTL, TRIGGER, NDR}
use Rattle.rpc_session.specs.declared.contexts.Interface.{Interface}
use Rattle.rpc_session.specs.declared.contexts.Interface.TheVariants.{Svcctl, Trigger}
use Rattle.rpc_session.specs.declared.contexts.Answer.{Answer}
use Rattle.rpc_session.specs.declared.contexts.Answer.TheVariants.{Accepted, NotServed, NoTransferSyntax}

abbrev pub is_trigger : Interface → Bool
is_trigger Svcctl = false
is_trigger Trigger = true

abbrev pub by_trigger : Bool → Interface
by_trigger false = Svcctl
by_trigger true = Trigger

abbrev pub same_interface : (i : Interface) → by_trigger (is_trigger i) ≡ i
same_interface Svcctl = refl
same_interface Trigger = refl

abbrev pub coded_interface : Coded Interface
coded_interface = code_by Bool coded_bool is_trigger by_trigger same_interface

unfoldable pub same_syntax : List ℕ → List ℕ → Bool
same_syntax = bytes_eq

abbrev pub interface_of : List ℕ → Option Interface
interface_of syntax =
    if same_syntax syntax SVCCTL then Some Svcctl else if same_syntax syntax TRIGGER then Some Trigger else None

-- whether NDR is among this many syntaxes
unfoldable pub offers : ℕ → List ℕ → Bool
offers zero syntaxes = false
offers (suc n) syntaxes = same_syntax (take 20 syntaxes) NDR || offers n (drop 20 syntaxes)

abbrev pub answer_by : Option Interface → Bool → Answer
answer_by None ndr = NotServed
answer_by (Some interface) ndr = if ndr then Accepted interface else NoTransferSyntax

abbrev pub context_answer : Context (List ℕ) → Answer
context_answer c = answer_by (interface_of c.abstract_syntax) (offers (length c.transfer_syntaxes / 20) c.transfer_syntaxes)

-- a context without where its bytes lie in memory
abbrev pub as_value : Context (Bor (List ℕ)) → Context (List ℕ)
as_value c = record { id = c.id; abstract_syntax = c.abstract_syntax.now; transfer_syntaxes = c.transfer_syntaxes.now }

abbrev pub no_syntax : List ℕ
no_syntax = 0 ∷ 0 ∷ 0 ∷ 0 ∷ 0 ∷ 0 ∷ 0 ∷ 0 ∷ 0 ∷ 0 ∷ 0 ∷ 0 ∷ 0 ∷ 0 ∷ 0 ∷ 0 ∷ 0 ∷ 0 ∷ 0 ∷ 0 ∷ []

-- result, reason and syntax
unfoldable pub result_bytes : Answer → List ℕ
result_bytes (Accepted interface) = 0 ∷ 0 ∷ 0 ∷ 0 ∷ NDR
result_bytes NotServed = 2 ∷ 0 ∷ 1 ∷ 0 ∷ no_syntax
result_bytes NoTransferSyntax = 2 ∷ 0 ∷ 2 ∷ 0 ∷ no_syntax

abbrev pub accepted_by : Answer → Option Interface
accepted_by (Accepted interface) = Some interface
accepted_by _ = None

-- the interface that is accepted under each context id
abbrev pub Interfaces : Type 0
Interfaces = FinMap nat_cmp Interface

-- an answer replaces an earlier one to the same id, a rejection an acceptance too
abbrev pub with_answer : Interfaces → ℕ → Answer → Interfaces
with_answer known id (Accepted interface) = map.insert known id interface
with_answer known id _ = map.remove known id

unfoldable pub known_after : Interfaces → List (Context (List ℕ)) → Interfaces
known_after known [] = known
known_after known (c ∷ cs) = known_after (with_answer known c.id (context_answer c)) cs

unfoldable pub results_of : List (Context (List ℕ)) → List ℕ
results_of [] = []
results_of (c ∷ cs) = result_bytes (context_answer c) ++ results_of cs

-- the interfaces that a table lists from an id on
unfoldable pub listed_from : ℕ → List (Option Interface) → Interfaces
listed_from id [] = map.empty
listed_from id (None ∷ table) = listed_from (id + 1) table
listed_from id (Some interface ∷ table) = map.insert (listed_from (id + 1) table) id interface

abbrev pub listed : List (Option Interface) → Interfaces
listed table = listed_from 0 table

-- each id is below this
abbrev pub AreBelow : ℕ → List (Context (List ℕ)) → Type 0
AreBelow room = All (λ c. c.id < room)
