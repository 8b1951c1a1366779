-- What a client writes: its bind, and each request in fragments.
use Rattle.std.specs.Prelude.{ℕ, zero, suc, Bool, true, false, nat_le, List, [], ◌∷◌, ◌++◌, length, take, drop, None}
use Rattle.rpc_pdu.specs.declared.pdu.Pdu.TheVariants as pdus
use Rattle.rpc_pdu.specs.Written.{request_pdu_bytes as pdu_bytes, encoded}
use Rattle.sc_client.specs.declared.requests.TheConstants.{SVCCTL, NDR}
use Rattle.scm_bodies.specs.Requests.{request_bytes}
use Rattle.scm_model.specs.declared.calls.Request.{Request}
use Rattle.scm_model.specs.Opnums.{opnum}

-- ## The bind

-- one context, with number 0: svcctl in NDR
abbrev pub contexts : List ℕ
contexts = (0 ∷ 0 ∷ 1 ∷ 0 ∷ []) ++ (SVCCTL ++ NDR)

unfoldable pub bind_text : List ℕ
bind_text = encoded (pdus.Bind (record { call = 1; auth = 0; transmit = 5840; receive = 5840; group = 0; count = 1; contexts = contexts }))

-- ## Fragments

-- how many stub bytes a fragment has at most
abbrev pub fragment_room : ℕ
fragment_room = 1408

-- the fragment that the rest of a body begins with
unfoldable pub request_fragment : ℕ → ℕ → Bool → List ℕ → List ℕ
request_fragment call opnum first rest = pdu_bytes (record {
  call = call;
  first = first;
  last = nat_le (length rest) fragment_room;
  hint = length rest;
  context = 0;
  opnum = opnum;
  object = None;
  stub = take fragment_room rest;
})

-- the rest of a body in at most this many fragments, each as full as may be
unfoldable pub request_fragments : ℕ → ℕ → ℕ → Bool → List ℕ → List ℕ
request_fragments zero call opnum first rest = []
request_fragments (suc n) call opnum first [] = []
request_fragments (suc n) call opnum first (b ∷ rest) =
    request_fragment call opnum first (b ∷ rest) ++ request_fragments n call opnum false (drop fragment_room (b ∷ rest))

-- a body in fragments, of which each takes a byte at least
abbrev pub fragmented : ℕ → ℕ → List ℕ → List ℕ
fragmented call opnum body = request_fragments (length body) call opnum true body

-- a request under a call id
unfoldable pub request_text : ℕ → Request → List ℕ
request_text call r = fragmented call (opnum r) (request_bytes r)
