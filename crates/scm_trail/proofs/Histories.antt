-- Trails that hold the end of a history.
use Rattle.std.proofs.Common.{◌≡◌, ◌∙◌, ◌+◌, ◌≤◌, List, [], ◌∷◌, ◌++◌, length, Option, None, Some, refl, sym, ap, arith}
use Rattle.std.proofs.Common.{append_assoc, subst}
use Rattle.std.specs.List.{last_or}
use Rattle.scm_model.specs.Entries.{Entry, text_in}
use Rattle.scm_model.specs.Texts.{text_of}
use Rattle.scm_trail.specs.Segments.{first_codes}
use Rattle.scm_trail.specs.Trailed.{Ends, Extends, Stays, Trailed, no_entries}

text_more : (log : List Entry) (e : Entry) → text_in (log ++ e ∷ []) ≡ text_in log + text_of e.1
text_more [] e = omega arith
text_more (x ∷ log) e = omega (arith, text_more log e)

last_snoc : (o : Option Entry) (es : List Entry) (e : Entry) → last_or o (es ++ e ∷ []) ≡ Some e
last_snoc o [] e = refl
last_snoc o (x ∷ xs) e = last_snoc (Some x) xs e

pub ends_none : Ends no_entries []
ends_none = record { front = []; is = refl; past = refl; text = refl }

pub ends_more : (t t' : Trailed) (log : List Entry) (e : Entry) → Ends t log → Extends t t' e → Ends t' (log ++ e ∷ [])
ends_more t t' log e ends more = record {
  front = ends.front;
  is = ap (λ l. l ++ e ∷ []) ends.is ∙ append_assoc ends.front t.entries (e ∷ []) ∙ ap (λ l. ends.front ++ l) (sym more.entries);
  past = more.past ∙ ends.past;
  text = more.text ∙ ap (λ n. n + text_of e.1) ends.text ∙ sym (text_more log e);
}

pub ends_same : (t t' : Trailed) (log : List Entry) → Ends t log → Stays t t' → Ends t' log
ends_same t t' log ends same = record {
  front = ends.front;
  is = ends.is ∙ ap (λ l. ends.front ++ l) (sym same.entries);
  past = same.past ∙ ends.past;
  text = same.text ∙ ends.text;
}

none_long : (front : List Entry) → 0 ≡ length front → front ≡ []
none_long [] none = refl
none_long (e ∷ front) none = absurd (omega (arith, none))

-- where nothing was let go, it holds the whole history
pub ends_whole : (t : Trailed) (log : List Entry) → Ends t log → t.past ≡ 0 → t.entries ≡ log
ends_whole t log ends none =
    sym (ends.is ∙ ap (λ (front : List Entry). front ++ t.entries) (none_long ends.front (sym none ∙ ends.past)))

-- what was added last is the last entry
pub extended_last : (t t' : Trailed) (e : Entry) → Extends t t' e → last_or None t'.entries ≡ Some e
extended_last t t' e more = ap (λ (es : List Entry). last_or None es) more.entries ∙ last_snoc None t.entries e

pub stays_self : (t t' : Trailed) → t' ≡ t → Stays t t'
stays_self t t' is = record {
  past = ap (λ (x : Trailed). x.past) is;
  entries = ap (λ (x : Trailed). x.entries) is;
  text = ap (λ (x : Trailed). x.text) is;
  first = subst (λ (x : Trailed). length (first_codes t.parts) ≤ length (first_codes x.parts)) (sym is) (omega arith);
}

pub stays_on : (t mid t' : Trailed) → Stays t mid → Stays mid t' → Stays t t'
stays_on t mid t' before then = record {
  past = then.past ∙ before.past;
  entries = then.entries ∙ before.entries;
  text = then.text ∙ before.text;
  first = let a = before.first in let b = then.first in omega (arith, a, b);
}

pub stays_extended : (t mid t' : Trailed) (e : Entry) → Stays t mid → Extends mid t' e → Extends t t' e
stays_extended t mid t' e before then = record {
  past = then.past ∙ before.past;
  entries = then.entries ∙ ap (λ (l : List Entry). l ++ e ∷ []) before.entries;
  text = then.text ∙ ap (λ n. n + text_of e.1) before.text;
  first = let a = before.first in let b = then.first in omega (arith, a, b);
}
