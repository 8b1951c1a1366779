-- What a client will be told, a PDU at a time.
use Rattle.std.proofs.Common.{◌≡◌, ℕ, zero, suc, ◌+◌, ◌-◌, ◌<◌, ◌≤◌, Bool, true, false, cond, List, [], ◌∷◌, ◌++◌, length, drop, refl, sym}
use Rattle.std.proofs.Common.{ap, ◌∙◌, arith, append_assoc, append-nil, subst, length-append}
use Rattle.std.specs.Prelude.{Option, None, Some, is_none, not, ◌&&◌, ◌==◌}
use Rattle.std.proofs.lemmas.List.{drop-append-le, length-drop}
use Rattle.outside.specs.Written.{Begins}
use Rattle.rpc_pdu.specs.declared.pdu.End.TheVariants.{Client}
use Rattle.rpc_pdu.specs.declared.pdu.Pdu.{Pdu}
use Rattle.rpc_pdu.specs.declared.pdu.PduKind.{PduKind}
use Rattle.rpc_pdu.specs.declared.pdu.PduRead.TheVariants.{Whole, Short, Bad as BadPdu}
use Rattle.rpc_pdu.specs.Pdu.{pdu_at}
use Rattle.rpc_session.specs.Pdus.{Cut, CutEnd, Nothing, Part, BadAt, no_more, onto, pdus_after, pdus_from}
use Rattle.rpc_session.proofs.Telling.{whole_first, bad_first, short_first}
use Rattle.sc_words.specs.declared.command.Command.{Command}
use Rattle.sc_client.specs.declared.held.Held.{Held}
use Rattle.sc_client.specs.declared.talk.Talk.{Talk}
use Rattle.sc_client.specs.Along.{told_with, read_so_far}
use Rattle.sc_client.specs.Requests.{bind_text}
use Rattle.sc_client.specs.Talks.{Followed, Over, Bad, Early, after_move, due, talk_end, talk_of, followed_by, followed_of, is_over}
use Rattle.sc_client.specs.Talks.{pdu_move, not_bound}

at_pdu : (c : Command) (place : ℕ) (pdu : Pdu (List ℕ)) (cut : Cut) (t : Talk) (text : List ℕ) → is_over c t ≡ false
    → followed_of c (onto (place, pdu) cut) t text ≡ after_move (λ next. followed_of c cut next (text ++ due c next)) place t text
    (pdu_move c t pdu)
unfolding followed_by
at_pdu c place pdu cut t text e = rw e refl

at_end : (c : Command) (ending : CutEnd) (t : Talk) (text : List ℕ) → is_over c t ≡ false
    → followed_of c (no_more ending) t text ≡ record { talk = t; text = text; ending = talk_end ending }
unfolding followed_by
at_end c ending t text e = rw e refl

whole_ahead : (place : ℕ) (rest : List ℕ) (pdu : Pdu (List ℕ)) (u : ℕ) (more : List ℕ) → pdu_at Client rest ≡ Whole pdu u
    → pdu_at Client (rest ++ more) ≡ pdu_at Client rest → 16 ≤ u → u ≤ length rest
    → pdus_from Client place (rest ++ more) ≡ onto (place, pdu) (pdus_from Client (place + u) (drop u rest ++ more))
whole_ahead place rest pdu u more is stays low high =
    let far : u ≤ length (rest ++ more) = omega (arith, length-append rest more) in
    whole_first Client place (rest ++ more) pdu u (stays ∙ is) low far
    ∙ ap (λ bytes. onto (place, pdu) (pdus_from Client (place + u) bytes)) (drop-append-le u rest more high)

-- a PDU that stands first has its place
pub took : (c : Command) (t next : Talk) (h k : Held) (pdu : Pdu (List ℕ)) (u : ℕ) → is_over c t ≡ false
    → pdu_at Client h.bytes ≡ Whole pdu u
    → ((more : List ℕ) → pdu_at Client (h.bytes ++ more) ≡ pdu_at Client h.bytes) → 16 ≤ u → u ≤ length h.bytes
    → pdu_move c t pdu ≡ Some next
    → k ≡ record { bytes = drop u h.bytes; place = h.place + u }
    → (text more : List ℕ) → told_with c t h text more ≡ told_with c next k (text ++ due c next) more
unfolding told_with
took c t next h k pdu u goes is stays low high moves passed = λ text more.
    ap (λ cut. followed_of c cut t text) (whole_ahead h.place h.bytes pdu u more is (stays more) low high)
    ∙ at_pdu c h.place pdu (pdus_from Client (h.place + u) (drop u h.bytes ++ more)) t text goes
    ∙ ap (after_move (λ n. followed_of c (pdus_from Client (h.place + u) (drop u h.bytes ++ more)) n (text ++ due c n)) h.place t text)
    moves
    ∙ ap (λ (x : Held). followed_of c (pdus_from Client x.place (x.bytes ++ more)) next (text ++ due c next)) (sym passed)

-- as many bytes were read as before
pub same_total : (h k : Held) (u : ℕ) → u ≤ length h.bytes → k ≡ record { bytes = drop u h.bytes; place = h.place + u }
    → read_so_far k ≡ read_so_far h
same_total h k u high passed =
    let e : h.place + u + length (drop u h.bytes) ≡ h.place + length h.bytes = omega (arith, length-drop u h.bytes) in
    ap read_so_far passed ∙ e

-- or it has none
pub misplaced : (c : Command) (t : Talk) (h : Held) (pdu : Pdu (List ℕ)) (u : ℕ) → is_over c t ≡ false → pdu_at Client h.bytes ≡ Whole pdu u
    → ((more : List ℕ) → pdu_at Client (h.bytes ++ more) ≡ pdu_at Client h.bytes) → 16 ≤ u → u ≤ length h.bytes → pdu_move c t pdu ≡ None
    → (text more : List ℕ) → told_with c t h text more ≡ record { talk = t; text = text; ending = Bad h.place }
unfolding told_with
misplaced c t h pdu u goes is stays low high moves = λ text more.
    ap (λ cut. followed_of c cut t text) (whole_ahead h.place h.bytes pdu u more is (stays more) low high)
    ∙ at_pdu c h.place pdu (pdus_from Client (h.place + u) (drop u h.bytes ++ more)) t text goes
    ∙ ap (after_move (λ n. followed_of c (pdus_from Client (h.place + u) (drop u h.bytes ++ more)) n (text ++ due c n)) h.place t text)
    moves

-- what stands first is no PDU
pub no_pdu : (c : Command) (t : Talk) (h : Held) (kind : PduKind) → is_over c t ≡ false → pdu_at Client h.bytes ≡ BadPdu kind
    → ((more : List ℕ) → pdu_at Client (h.bytes ++ more) ≡ pdu_at Client h.bytes)
    → (text more : List ℕ) → told_with c t h text more ≡ record { talk = t; text = text; ending = Bad h.place }
unfolding told_with
no_pdu c t h kind goes is stays = λ text more.
    ap (λ cut. followed_of c cut t text) (bad_first Client h.place (h.bytes ++ more) kind (stays more ∙ is))
    ∙ at_end c (BadAt h.place kind) t text goes

from_part : (c : Command) (t : Talk) (place : ℕ) (bytes : List ℕ) (needed : ℕ) → is_over c t ≡ false → pdu_at Client bytes ≡ Short needed
    → (text : List ℕ) → followed_of c (pdus_from Client place bytes) t text ≡ record { talk = t; text = text; ending = Early }
unfolding pdus_after
from_part c t place [] needed goes is = λ text. at_end c Nothing t text goes
from_part c t place (b ∷ bytes) needed goes is = λ text.
    ap (λ cut. followed_of c cut t text) (short_first Client place b bytes needed is) ∙ at_end c Part t text goes

-- less than a PDU stands first
pub a_part : (c : Command) (t : Talk) (h : Held) (needed : ℕ) → is_over c t ≡ false → pdu_at Client h.bytes ≡ Short needed
    → (text : List ℕ) → told_with c t h text [] ≡ record { talk = t; text = text; ending = Early }
unfolding told_with
a_part c t h needed goes is = λ text.
    ap (λ bytes. followed_of c (pdus_from Client h.place bytes) t text) (append-nil h.bytes)
    ∙ from_part c t h.place h.bytes needed goes is text

-- ## Text

begins_more : (a b all : List ℕ) → Begins (a ++ b) all → Begins a all
begins_more a b all x = (b ++ x.0, x.1 ∙ append_assoc a b x.0)

at_move : (more : Talk → Followed) (place : ℕ) (t : Talk) (text : List ℕ) (o : Option Talk) → ((n : Talk) → Begins text (more n).text)
    → Begins text (after_move more place t text o).text
at_move more place t text None h = ([], sym (append-nil text))
at_move more place t text (Some n) h = h n

if_over : (b : Bool) (t : Talk) (text : List ℕ) (other : Followed) → Begins text other.text
    → Begins text (cond b (record { talk = t; text = text; ending = Over }) other).text
if_over true t text other h = ([], sym (append-nil text))
if_over false t text other h = h

-- what was written stays at the front of what is due
pub text_stays : (c : Command) (pdus : List (ℕ × Pdu (List ℕ))) (ending : CutEnd) (t : Talk) (text : List ℕ)
    → Begins text (followed_by c pdus ending t text).text
unfolding followed_by
text_stays c [] ending t text = ([], sym (append-nil text))
text_stays c (pdu ∷ pdus) ending t text = if_over (is_over c t) t text _ (at_move _ pdu.0 t text (pdu_move c t pdu.1)
    (λ n. begins_more text (due c n) _ (text_stays c pdus ending n (text ++ due c n))))

pub text_to_come : (c : Command) (t : Talk) (h : Held) (text more : List ℕ) → Begins text (told_with c t h text more).text
unfolding told_with
text_to_come c t h text more = let cut = pdus_from Client h.place (h.bytes ++ more) in text_stays c cut.pdus cut.ending t text

-- the bind comes first
pub bind_first : (c : Command) → Begins bind_text (talk_of c []).text
unfolding talk_of
bind_first c = let cut = pdus_from Client 0 [] in text_stays c cut.pdus cut.ending not_bound bind_text

-- ## Ends

over_by_pdus : (c : Command) (pdus : List (ℕ × Pdu (List ℕ))) (ending : CutEnd) (t : Talk) (text : List ℕ) → is_over c t ≡ true
    → followed_by c pdus ending t text ≡ record { talk = t; text = text; ending = Over }
unfolding followed_by
over_by_pdus c [] ending t text e = rw e refl
over_by_pdus c (pdu ∷ pdus) ending t text e = rw e refl

-- nothing that comes is looked at once all is answered
pub over_to_come : (c : Command) (t : Talk) (h : Held) (text more : List ℕ) → is_over c t ≡ true
    → told_with c t h text more ≡ record { talk = t; text = text; ending = Over }
unfolding told_with
over_to_come c t h text more e = let cut = pdus_from Client h.place (h.bytes ++ more) in over_by_pdus c cut.pdus cut.ending t text e
