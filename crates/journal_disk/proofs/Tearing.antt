-- An image by a choice of what was open is one that a crash may leave.
use Rattle.std.proofs.Common.{◌≡◌, ◌<◌, get_or, inr, ℕ, ◌+◌, ◌-◌, ◌≤◌, min, Bool, true, false, cond, nat_lt, List, [], ◌∷◌, ◌++◌, length}
use Rattle.std.proofs.Common.{take, drop, refl, sym, ◌∙◌, ap, arith, append_assoc, length-append, take-append-drop}
use Rattle.std.specs.Prelude.{replicate, slice_index_or}
use Rattle.std.proofs.lemmas.Bool.Decides.{nat_tests}
use Rattle.std.proofs.lemmas.List.{length-take, length-replicate, drop_at, take_more}
use Rattle.journal_disk.specs.Files.{Files, TornFile, file, written}
use Rattle.journal_disk.specs.Calls.{as_call, history, past_onto}
use Rattle.journal_disk.specs.Past.{Call, Opened, Read, Sized, Synced, Wrote, remains, now_after, now_of}
use Rattle.journal_disk.specs.Tears.{image_after, image_of, lost, open_after, open_writes, past_at, torn_by}
use Rattle.journal_disk.specs.declared.calls.TakenCall.{TakenCall}
use Rattle.journal_disk.specs.declared.calls.DiskFate.TheVariants.{Succeeds, Fails}
use Rattle.journal_disk.specs.declared.images.Tear.{Tear}
use Rattle.journal_disk.proofs.Putting.{torn_none, torn_piece}
use Rattle.journal_disk.proofs.Telling.{past_more}

no_longer : (tear : Tear) (bytes : List ℕ) → length (torn_by tear bytes) ≤ length bytes
no_longer tear bytes =
    let kept = min tear.kept (length bytes) in
    let longer = min tear.longer (length bytes - kept) in
    omega (arith, length-append (take kept bytes) (replicate longer tear.byte), length-take kept bytes, length-replicate longer tear.byte)

torn_or_none : (n at size : ℕ) (part : List ℕ) (image : Files) → length part ≤ size → (b : Bool) → nat_lt (length (file image n)) at ≡ b
    → TornFile n at size image (cond b image (written n at part image))
torn_or_none n at size part image short true past = torn_none n at size image
torn_or_none n at size part image short false within =
    let le : at ≤ length (file image n) = grind (arith, nat_tests) in
    torn_piece n at size part image le short

left_one : (tear : Tear) (first : Files) (call : Call) (past : List Call) (image : Files) → remains first past image
    → remains first (call ∷ past) (image_after tear call (now_of first past) image)
left_one tear first (Wrote n at bytes fate) past image h =
    inr
    (image, h, torn_or_none n at (length bytes) (torn_by tear bytes) image (no_longer tear bytes) (nat_lt (length (file image n)) at) refl)
left_one tear first (Synced Succeeds) past image h = refl
left_one tear first (Synced (Fails done)) past image h = h
left_one tear first (Opened false Succeeds) past image h = refl
left_one tear first (Opened false (Fails done)) past image h = h
left_one tear first (Opened true fate) past image h = h
left_one tear first (Sized n fate) past image h = h
left_one tear first (Read n at size fate) past image h = h

pub image_left : (tears : List Tear) (first : Files) (past : List Call) → remains first past (image_of tears first past)
image_left tears first [] = refl
image_left tears first (call ∷ past) =
    left_one (slice_index_or tears (open_writes past) lost) first call past (image_of tears first past) (image_left tears first past)

-- ## A call more

pub one_more : (calls : List TakenCall) (i : ℕ) (call : TakenCall) → i < length calls → call ≡ get_or calls i call
    → history (take (i + 1) calls) ≡ as_call call ∷ history (take i calls)
one_more calls i call within is =
    ap history (take_more calls i call within ∙ ap (λ (x : TakenCall). take i calls ++ x ∷ []) (sym is)) ∙ past_more [] (take i calls) call

pub image_more : (tears : List Tear) (tear : Tear) (first : Files) (p q : List Call) (call : Call) (held image new : Files)
    → tear ≡ slice_index_or tears (open_writes p) lost → held ≡ now_of first p → image ≡ image_of tears first p
    → new ≡ image_after tear call held image → q ≡ call ∷ p → new ≡ image_of tears first q
image_more tears tear first p q call held image new tear_is held_is image_is made more =
    made ∙ (λ i. image_after (tear_is i) call (held_is i) (image_is i)) ∙ ap (λ (l : List Call). image_of tears first l) (sym more)

pub held_more : (first : Files) (p q : List Call) (call : Call) (held new : Files) → held ≡ now_of first p → new ≡ now_after call held
    → q ≡ call ∷ p → new ≡ now_of first q
held_more first p q call held new held_is made more =
    made ∙ ap (λ (f : Files). now_after call f) held_is ∙ ap (λ (l : List Call). now_of first l) (sym more)

pub open_more : (p q : List Call) (call : Call) (old new : ℕ) → old ≡ open_writes p → new ≡ open_after call old → q ≡ call ∷ p
    → new ≡ open_writes q
open_more p q call old new old_is made more =
    made ∙ ap (λ (n : ℕ). open_after call n) old_is ∙ ap (λ (l : List Call). open_writes l) (sym more)

pub open_bound : (call : Call) (n : ℕ) → open_after call n ≤ n + 1
open_bound (Wrote file at bytes fate) n = omega arith
open_bound (Synced Succeeds) n = omega arith
open_bound (Synced (Fails done)) n = omega arith
open_bound (Opened false Succeeds) n = omega arith
open_bound (Opened false (Fails done)) n = omega arith
open_bound (Opened true fate) n = omega arith
open_bound (Sized file fate) n = omega arith
open_bound (Read file at size fate) n = omega arith

-- ## Moments

newer : (past : List Call) (calls : List TakenCall) → past_onto past calls ≡ history calls ++ past
newer past [] = refl
newer past (x ∷ calls) =
    newer (as_call x ∷ past) calls ∙ sym (append_assoc (history calls) (as_call x ∷ []) past)
    ∙ ap (λ (l : List Call). l ++ past) (sym (newer (as_call x ∷ []) calls))

both : (past : List Call) (old new : List TakenCall) → past_onto past (old ++ new) ≡ past_onto (past_onto past old) new
both past [] new = refl
both past (x ∷ old) new = both (as_call x ∷ past) old new

pub past_length : (calls : List TakenCall) → length (history calls) ≡ length calls
past_length [] = refl
past_length (x ∷ calls) =
    let so_far : length (history calls) ≡ length calls = past_length calls in
    ap length (newer (as_call x ∷ []) calls) ∙ omega (arith, length-append (history calls) (as_call x ∷ []), so_far)

-- what was done at a moment is the first calls
pub at_moment : (calls : List TakenCall) (k : ℕ) → k ≤ length calls → past_at k (history calls) ≡ history (take k calls)
at_moment calls k within =
    let old = take k calls in
    let new = drop k calls in
    let split : history calls ≡ history new ++ history old =
    ap history (sym (take-append-drop k calls)) ∙ both [] old new ∙ newer (history old) new in
    let long : length (history calls) - k ≡ length (history new) =
    omega (arith, past_length calls, past_length old, length-take k calls, ap length split, length-append (history new) (history old)) in
    ap (λ (n : ℕ). drop n (history calls)) long ∙ ap (λ (l : List Call). drop (length (history new)) l) split
    ∙ drop_at (history new) (history old) (length (history new)) refl
