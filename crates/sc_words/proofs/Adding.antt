-- What one word more stands for is put after what was read.
use Rattle.std.proofs.Common.{◌≡◌, ℕ, ◌+◌, List, ◌∷◌, drop, true≢false, refl, ap, sym, ◌∙◌}
use Rattle.std.specs.Prelude.{Option, None, Some, is_none, unwrap_or, Err}
use Rattle.sc_words.specs.declared.fault.WordsFault.{WordsFault}
use Rattle.sc_words.specs.declared.fault.WordsFault.TheVariants.{BadWord, OutOfMemory}
use Rattle.sc_words.specs.Along.{IsPut, with_next}
use Rattle.sc_words.specs.Places.{AnswersAs, each_from}
use Rattle.sc_words.proofs.Lists.{before, from_more, from_stop}

none_next : {A : Type 0} (xs : List A) (x : Option A) → with_next xs x ≡ None → x ≡ None
none_next xs None put = refl
none_next xs (Some x) put = absurd (true≢false (sym (ap is_none put)))

module _ {A : Type 0} (f : List ℕ → Option A) (words : List (List ℕ)) (place : ℕ) (word : List ℕ) (xs now : List A)
    (cut : drop place words ≡ word ∷ drop (place + 1) words) where
  next_of : (x : Option A) → f word ≡ x → with_next xs x ≡ Some now
      → before now (each_from f (place + 1) (drop (place + 1) words)) ≡ before xs (each_from f place (drop place words))
  next_of None e put = absurd (true≢false (ap is_none put))
  next_of (Some x) e put = from_more f words place word xs now x cut e (ap (λ o. unwrap_or o xs) (sym put))

  -- one was put
  pub put_more : with_next xs (f word) ≡ Some now
      → before now (each_from f (place + 1) (drop (place + 1) words)) ≡ before xs (each_from f place (drop place words))
  put_more put = next_of (f word) refl put

  -- or none was
  pub put_stops : (fault : WordsFault) → IsPut place (with_next xs (f word)) now (Err fault)
      → AnswersAs {A = List A} (Err fault) (before xs (each_from f place (drop place words)))
  put_stops (BadWord k) put = from_stop f words place word xs cut (none_next xs (f word) put.0) ∙ ap Err (sym put.1)
  put_stops OutOfMemory put = tt
