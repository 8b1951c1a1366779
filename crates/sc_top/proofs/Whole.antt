-- A run without faults has the status of the peer's bytes.
use Rattle.std.proofs.Common.{◌≡◌, ℕ, List, [], ◌++◌, sym, ap, ◌∙◌, subst, refl, append-nil, inl, inr}
use Rattle.std.specs.Prelude.{Option, None, Some, is_some, IfSome, IfOk, Result, Ok, Err}
use Rattle.std.specs.Io.KnownBytes.{Consumes, IsAtEnd}
use Rattle.outside.specs.Causes.{Rose}
use Rattle.sc_client.specs.declared.fault.ClientFault.TheVariants as client
use Rattle.sc_client.specs.Runs.{EndsSo}
use Rattle.sc_client.specs.Talks.{TalkEnd, talk_of}
use Rattle.sc_top.specs.declared.fault.ScFault.{ScFault}
use Rattle.sc_top.specs.declared.fault.ScFault.TheVariants as faults
use Rattle.sc_top.specs.Runs.{Outside, EndsWith, RunEnded, IsRunComplete, IsUnlessMemory, status_due, command_status, status_of_text}
use Rattle.sc_words.specs.declared.calls.Failure.{Failure}
use Rattle.sc_words.specs.declared.command.Command.{Command}
use Rattle.sc_words.specs.Told.{failure_of}

-- what was read stands at the front of what the peer sends
rest_of : (left : Option (List ℕ)) (bytes read : List ℕ) → Consumes (Some bytes) left read → (rest : List ℕ) × (bytes ≡ read ++ rest)
rest_of None bytes read x = absurd x
rest_of (Some rest) bytes read x = (rest, x)

all_read : (left : Option (List ℕ)) (bytes read : List ℕ) → Consumes (Some bytes) left read → IsAtEnd left → bytes ≡ read
all_read None bytes read x end = absurd x
all_read (Some rest) bytes read x end = x ∙ ap (λ r. read ++ r) end ∙ append-nil read

due_by : (c : Command) (next left : Option (List ℕ)) (bytes read text : List ℕ) (ending : TalkEnd) → next ≡ Some bytes
    → Consumes next left read → (e : EndsSo c read text ending)
    → talk_of c bytes ≡ record { talk = e.talk; text = text; ending = ending }
due_by c next left bytes read text ending is x e =
    let rest = rest_of left bytes read (subst (λ n. Consumes n left read) is x) in
    ap (talk_of c) rest.1 ∙ e.told rest.0

due : (c : Command) (o : Outside) (bytes : List ℕ) → o.next ≡ Some bytes → (status : ℕ) (how : Result (Option Failure) ScFault)
    → RunEnded c o how
    → (Rose o.dialer o.dialer_now → ⊥) → (Rose o.output o.output_now → ⊥) → status ≡ command_status how
    → IsUnlessMemory (status_due c (talk_of c bytes)) status
due c o bytes is status (Ok failure) x undialled unwritten e =
    let run = x.1.run in
    inl (e ∙ ap (λ f. status_of_text (is_some f)) (x.3 ∙ ap (failure_of c) (sym run.reached.1))
    ∙ sym (ap (status_due c) (due_by c o.next x.1.left bytes run.read run.text _ is run.consumed run.reached.0)))
due c o bytes is status (Err (faults.Words place)) x undialled unwritten e = absurd x
due c o bytes is status (Err faults.Encoding) x undialled unwritten e = absurd x
due c o bytes is status (Err faults.Dial) x undialled unwritten e = absurd (undialled x.1)
due c o bytes is status (Err (faults.Client client.ReadFault)) x undialled unwritten e = absurd (undialled x.1)
due c o bytes is status (Err (faults.Client client.WriteFault)) x undialled unwritten e = absurd (undialled x.1)
due c o bytes is status (Err (faults.Client (client.BadReply place))) x undialled unwritten e =
    let run = x.0.run in inl (e ∙ sym (ap (status_due c) (due_by c o.next x.0.left bytes run.read run.text _ is run.consumed run.reached)))
due c o bytes is status (Err (faults.Client client.Truncated)) x undialled unwritten e =
    let run = x.0.run in
    let all = all_read x.0.left bytes run.read (subst (λ n. Consumes n x.0.left run.read) is run.consumed) run.reached.0 in
    inl (e ∙ sym (ap (status_due c) (ap (talk_of c) all ∙ run.reached.1.told)))
due c o bytes is status (Err (faults.Client client.OutOfMemory)) x undialled unwritten e = inr e
due c o bytes is status (Err faults.Output) x undialled unwritten e = absurd (unwritten x.3)
due c o bytes is status (Err faults.OutOfMemory) x undialled unwritten e = inr e

if_told : {A : Type 0} {P : A → Type 0} (o : Option A) → ((x : A) → o ≡ Some x → P x) → IfSome o P
if_told None f = tt
if_told (Some x) f = f x refl

pub complete : (words : List (List ℕ)) (c : Command) (o : Outside) (held held_now : Option (List ℕ)) (before now status : ℕ)
    → EndsWith words c o held held_now before now status → IsRunComplete c o status
complete words c o held held_now before now status e = if_told o.next (λ bytes is undialled unwritten. due c o bytes is status e.how e.run
    undialled unwritten e.told.status_is)

-- whatever command the words are
pub of_any : (P : Command → Type 0) (told : Result Command ℕ) → ((c : Command) → P c) → IfOk told P
of_any P (Ok c) p = p c
of_any P (Err place) p = tt
