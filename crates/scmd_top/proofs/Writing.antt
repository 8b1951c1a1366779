-- What is written after what was written.
use Rattle.std.proofs.Common.{ℕ, ◌∙◌, List, ◌++◌, Option, sym, ap, append_assoc}
use Rattle.std.specs.Io.KnownBytes.{Appends}
use Rattle.std.proofs.KnownBytes.{Appends-trans}
use Rattle.outside.specs.Written.{AppendsFront}

-- a front of the first part is a front of both
pub front_of_first : (old new : Option (List ℕ)) (first rest : List ℕ) → AppendsFront old new first → AppendsFront old new (first ++ rest)
front_of_first old new first rest h = record {
  front = h.front;
  begins = (h.begins.0 ++ rest, ap (λ x. x ++ rest) h.begins.1 ∙ append_assoc h.front h.begins.0 rest);
  held = h.held;
}

-- the first part, and then what was written of the rest
pub front_of_rest : (old mid new : Option (List ℕ)) (first rest : List ℕ) → Appends old mid first → AppendsFront mid new rest
    → AppendsFront old new (first ++ rest)
front_of_rest old mid new first rest h w = record {
  front = first ++ w.front;
  begins = (w.begins.0, ap (λ x. first ++ x) w.begins.1 ∙ sym (append_assoc first w.front w.begins.0));
  held = Appends-trans old mid new first w.front h w.held;
}
