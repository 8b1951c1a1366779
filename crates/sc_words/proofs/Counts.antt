-- How far calls came.
use Rattle.std.proofs.Common.{◌≡◌, ℕ, ◌+◌, ◌<◌, ◌≤◌, Bool, true, false, cond, List, [], ◌∷◌, length, drop, get_or, refl, ap, sym, ◌∙◌}
use Rattle.std.proofs.Common.{arith, add-one}
use Rattle.std.specs.Prelude.{Option, Some, None, unwrap_or}
use Rattle.std.proofs.Math.Seq.{drop-cons}
use Rattle.std.proofs.Math.ListN.{drop_of_length-le}
use Rattle.std.proofs.lemmas.List.{drop-drop}
use Rattle.sc_words.specs.declared.calls.Heard.{Heard}
use Rattle.sc_words.specs.declared.calls.Method.{Method}
use Rattle.sc_words.specs.declared.calls.Method.TheVariants.{OpenSCManager}
use Rattle.sc_words.specs.declared.calls.Progress.{Progress}
use Rattle.sc_words.specs.Calls.{and_taken, completes, progress_of}
use Rattle.sc_words.proofs.Lists.{read_and}

none_heard : (ms : List Method) → progress_of ms [] ≡ record { done = 0; taken = 0 }
unfolding progress_of
none_heard [] = refl
none_heard (m ∷ ms) = refl

none_left : (hs : List Heard) → progress_of [] hs ≡ record { done = 0; taken = 0 }
unfolding progress_of
none_left hs = refl

-- how many calls an answer completes, by what it is
abbrev counted : (part good : Bool) → Option ℕ
counted part good = cond part (Some 0) (cond good (Some 1) None)

if_some : (a b : Bool) (n : ℕ) (f : ℕ → Progress) (z : Progress) → counted a b ≡ Some n → cond a (f 0) (cond b (f 1) z) ≡ f n
if_some true b n f z e = ap (λ o. f (unwrap_or o 0)) e
if_some false true n f z e = ap (λ o. f (unwrap_or o 0)) e
if_some false false n f z e = cc

if_none : (a b : Bool) (x y z : Progress) → counted a b ≡ None → cond a x (cond b y z) ≡ z
if_none true b x y z e = cc
if_none false true x y z e = cc
if_none false false x y z e = refl

one_step : (m : Method) (ms : List Method) (h : Heard) (hs : List Heard) (n : ℕ) → completes h ≡ Some n
    → progress_of (m ∷ ms) (h ∷ hs) ≡ and_taken n (progress_of (drop n (m ∷ ms)) hs)
unfolding progress_of
one_step m ms h hs n e = if_some _ _ n (λ k. and_taken k (progress_of (drop k (m ∷ ms)) hs)) (record { done = 0; taken = 0 }) e

no_step : (m : Method) (ms : List Method) (h : Heard) (hs : List Heard) → completes h ≡ None
    → progress_of (m ∷ ms) (h ∷ hs) ≡ record { done = 0; taken = 0 }
unfolding progress_of
no_step m ms h hs e = if_none _ _ _ _ (record { done = 0; taken = 0 }) e

-- so many calls and answers more
abbrev pub onto : (done taken : ℕ) → Progress → Progress
onto done taken p = record { done = p.done + done; taken = p.taken + taken }

onto_taken : (done taken n : ℕ) (p : Progress) → onto done taken (and_taken n p) ≡ onto (done + n) (taken + 1) p
onto_taken done taken n p =
    let e : p.done + n + done ≡ p.done + (done + n) = omega arith in
    let f : p.taken + 1 + taken ≡ p.taken + (taken + 1) = omega arith in
    ap (λ k. record { done = k; taken = p.taken + 1 + taken }) e ∙ ap (λ k. record { done = p.done + (done + n); taken = k }) f

onto_none : (done taken : ℕ) → onto done taken (record { done = 0; taken = 0 }) ≡ record { done = done; taken = taken }
onto_none done taken =
    let e : 0 + done ≡ done = omega arith in
    let f : 0 + taken ≡ taken = omega arith in
    ap (λ k. record { done = k; taken = 0 + taken }) e ∙ ap (λ k. record { done = done; taken = k }) f

module _ (ms : List Method) (hs : List Heard) (done taken : ℕ) (within : done < length ms) where
  ahead : drop done ms ≡ get_or ms done OpenSCManager ∷ drop (done + 1) ms
  ahead = rw add-one (drop-cons ms done OpenSCManager within)

  -- one answer more
  pub one_more : (h : Heard) (n : ℕ) → taken < length hs → h ≡ get_or hs taken h → completes h ≡ Some n
      → progress_of ms hs ≡ onto done taken (progress_of (drop done ms) (drop taken hs))
      → progress_of ms hs ≡ onto (done + n) (taken + 1) (progress_of (drop (done + n) ms) (drop (taken + 1) hs))
  one_more h n some is e before =
      let m = get_or ms done OpenSCManager in
      let ms' = drop (done + 1) ms in
      let hs' = drop (taken + 1) hs in
      let step : progress_of (drop done ms) (drop taken hs) ≡ and_taken n (progress_of (drop n (drop done ms)) hs') =
      ap (λ xs. progress_of xs (drop taken hs)) ahead ∙ ap (progress_of (m ∷ ms')) (read_and hs taken h some is) ∙ one_step m ms' h hs' n e
      ∙ ap (λ xs. and_taken n (progress_of (drop n xs) hs')) (sym ahead) in
      before ∙ ap (onto done taken) step ∙ onto_taken done taken n (progress_of (drop n (drop done ms)) hs')
      ∙ ap (λ xs. onto (done + n) (taken + 1) (progress_of xs hs')) (drop-drop n done ms)

  -- or a failure
  pub no_more : (h : Heard) → taken < length hs → h ≡ get_or hs taken h → completes h ≡ None
      → progress_of ms hs ≡ onto done taken (progress_of (drop done ms) (drop taken hs))
      → record { done = done; taken = taken } ≡ progress_of ms hs
  no_more h some is e before =
      let m = get_or ms done OpenSCManager in
      let ms' = drop (done + 1) ms in
      let hs' = drop (taken + 1) hs in
      let step : progress_of (drop done ms) (drop taken hs) ≡ record { done = 0; taken = 0 } =
      ap (λ xs. progress_of xs (drop taken hs)) ahead ∙ ap (progress_of (m ∷ ms')) (read_and hs taken h some is) ∙ no_step m ms' h hs' e in
      sym (before ∙ ap (onto done taken) step ∙ onto_none done taken)

-- every call is done
pub all_done : (ms : List Method) (hs : List Heard) (done taken : ℕ) → length ms ≤ done
    → progress_of ms hs ≡ onto done taken (progress_of (drop done ms) (drop taken hs))
    → record { done = done; taken = taken } ≡ progress_of ms hs
all_done ms hs done taken past before =
    sym (before ∙ ap (λ xs. onto done taken (progress_of xs (drop taken hs))) (drop_of_length-le ms past)
    ∙ ap (onto done taken) (none_left (drop taken hs)) ∙ onto_none done taken)

-- every answer was taken
pub all_taken : (ms : List Method) (hs : List Heard) (done taken : ℕ) → length hs ≤ taken → taken ≤ length hs
    → progress_of ms hs ≡ onto done taken (progress_of (drop done ms) (drop taken hs))
    → record { done = done; taken = length hs } ≡ progress_of ms hs
all_taken ms hs done taken past within before =
    let e : length hs ≡ taken = omega arith in
    ap (λ n. record { done = done; taken = n }) e
    ∙ sym (before ∙ ap (λ xs. onto done taken (progress_of (drop done ms) xs)) (drop_of_length-le hs past)
    ∙ ap (onto done taken) (none_heard (drop done ms)) ∙ onto_none done taken)
