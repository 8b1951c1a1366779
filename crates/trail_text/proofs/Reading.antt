-- What is read exactly: a line of the opening, and an entry.
use Rattle.std.proofs.Common.{ℕ, ◌≡◌, ◌+◌, ◌%◌, ◌^◌, ◌<◌, ◌≤◌, ◌&&◌, Bool, true, false, cond, List, [], ◌∷◌, ◌++◌, Option, Some, None, refl}
use Rattle.std.proofs.Common.{sym, ap, ◌∙◌}
use Rattle.std.proofs.Common.{subst, arith}
use Rattle.std.specs.Prelude.{bytes_eq, codes, decimal, nat_lt, slice_index, unwrap_or}
use Rattle.std.specs.List.{All}
use Rattle.std.specs.Str.Parse.{digits_value}
use Rattle.std.proofs.lemmas.Bool.{ltb-true}
use Rattle.std.proofs.lemmas.Fmt.{decimal_by_steps}
use Rattle.std.proofs.lemmas.List.Elements.{All-cons, All-head, All-nil, All-push}
use Rattle.std.proofs.lemmas.Slice.Eq.{bytes_eq-Decides}
use Rattle.decimal_words.specs.Numbers.{decimal_number}
use Rattle.scm_model.specs.declared.flat.Config.{Config}
use Rattle.scm_model.specs.declared.flat.Limits.{Limits}
use Rattle.scm_lines.specs.declared.line.Line.{Line}
use Rattle.scm_lines.specs.Entries.{spaced}
use Rattle.scm_lines.specs.Lines.{line_at, line_in, line_in_words}
use Rattle.scm_lines.specs.Words.{◌>>=◌}
use Rattle.scm_lines.proofs.Spaced.{IsWord, hex_word, word_of, words_again}
use Rattle.opening_lines.specs.Heads.{config_at, config_line, group_at, group_line, if_written, limits_at, limits_line, moment_at}
use Rattle.opening_lines.specs.Heads.{moment_line}

-- ## Options

pub same_some : {A : Type 0} (x y : A) → Some x ≡ Some y → x ≡ y
same_some x y e = ap (λ o. unwrap_or o x) e

pub none_some : {A : Type 0} (o : Option A) (x : A) → o ≡ None → o ≡ Some x → ⊥
none_some None x none e = cc
none_some (Some y) x none e = cc

pub bind_some : {A B : Type 0} (o : Option A) (f : A → Option B) (y : B) → (o >>= f) ≡ Some y → (x : A) × (o ≡ Some x) × (f x ≡ Some y)
bind_some None f y e = absurd cc
bind_some (Some x) f y e = (x, refl, e)

-- nothing is there if nothing can be
pub is_nothing : {A : Type 0} (o : Option A) → ((x : A) → o ≡ Some x → ⊥) → o ≡ None
is_nothing None never = refl
is_nothing (Some x) never = absurd (never x refl)

pub if_some : {A : Type 0} (b : Bool) (x y : A) → cond b (Some x) None ≡ Some y → (b ≡ true) × (x ≡ y)
if_some true x y e = (refl, same_some x y e)
if_some false x y e = absurd cc

pub some_if : {A : Type 0} (b : Bool) (x : A) → b ≡ true → cond b (Some x) None ≡ Some x
some_if true x e = refl
some_if false x e = absurd cc

pub same_bytes : (xs ys : List ℕ) → xs ≡ ys → bytes_eq xs ys ≡ true
same_bytes xs ys e = (bytes_eq-Decides xs ys).1 e

pub bytes_same : (xs ys : List ℕ) → bytes_eq xs ys ≡ true → xs ≡ ys
bytes_same xs ys e = (bytes_eq-Decides xs ys).0 e

-- ## Lines of the opening

written : {A : Type 0} (write : A → List ℕ) (line : List ℕ) (x y : A) → if_written write line x ≡ Some y → write y ≡ line
written write line x y e =
    let h = if_some (bytes_eq (write x) line) x y e in
    subst (λ z. write z ≡ line) h.1 (bytes_same (write x) line h.0)

pub limits_is : (line : List ℕ) (l : Limits) → limits_at line ≡ Some l → limits_line l ≡ line
limits_is line l e = let h = bind_some _ (if_written limits_line line) l e in written limits_line line h.0 l h.2

pub moment_is : (line : List ℕ) (m : ℕ) → moment_at line ≡ Some m → moment_line m ≡ line
moment_is line m e = let h = bind_some _ (if_written moment_line line) m e in written moment_line line h.0 m h.2

pub group_is : (line : List ℕ) (g : List ℕ) → group_at line ≡ Some g → group_line g ≡ line
group_is line g e = let h = bind_some _ (if_written group_line line) g e in written group_line line h.0 g h.2

pub config_is : (line : List ℕ) (c : Config) → config_at line ≡ Some c → config_line c ≡ line
config_is line c e = let h = bind_some _ (if_written config_line line) c e in written config_line line h.0 c h.2

-- ## Which kind of line it is

-- a line that doesn't begin with a number is none of a step
no_moment : (first : List ℕ) (words : List (List ℕ)) → decimal_number first ≡ None → line_in (first ∷ words) ≡ None
unfolding line_in_words
no_moment first [] none = refl
no_moment first (name ∷ words) none = rw none refl

no_step : (first word : List ℕ) → decimal_number first ≡ None → IsWord first → IsWord word → line_at (first ++ spaced (word ∷ [])) ≡ None
no_step first word none clean other =
    ap line_in (words_again first (word ∷ []) clean (other, tt)) ∙ no_moment first (word ∷ []) none

digits_low : (n : ℕ) → n < 2 ^ 64 → All (λ b. b ≤ 57) (decimal n)
digits_low n small = decimal_by_steps (λ n ds. All (λ b. b ≤ 57) ds)
    (λ n low. All-cons (λ b. b ≤ 57) (48 + n) [] (omega arith) (All-nil (λ b. b ≤ 57)))
    (λ n ds high all. All-push (λ b. b ≤ 57) ds (48 + n % 10) all (omega arith))
    n small

none_if : {A : Type 0} (b c : Bool) (x : A) → (b ≡ true → c ≡ true → ⊥) → cond (b && c) (Some x) None ≡ None
none_if true true x never = absurd (never refl refl)
none_if true false x never = refl
none_if false c x never = refl

-- no number begins with a letter
no_number : (b : ℕ) (text : List ℕ) → 57 < b → decimal_number (b ∷ text) ≡ None
unfolding decimal_number
no_number b text high =
    let n = digits_value 10 (b ∷ text) in
    none_if (nat_lt n (2 ^ 64)) (bytes_eq (b ∷ text) (decimal n)) n (λ small same.
    let digits = subst (All (λ b. b ≤ 57)) (sym (bytes_same (b ∷ text) (decimal n) same)) (digits_low n (ltb-true n (2 ^ 64) small)) in
    omega (arith, high, All-head (λ b. b ≤ 57) b text digits))

group_number : decimal_number (codes "group") ≡ None
group_number = no_number 103 (codes "roup") (omega arith)

config_number : decimal_number (codes "config") ≡ None
config_number = no_number 99 (codes "onfig") (omega arith)

pub step_no_group : (line : List ℕ) (s : Line) → line_at line ≡ Some s → group_at line ≡ None
step_no_group line s e = is_nothing (group_at line) (λ g is.
    let none = no_step (codes "group") _ group_number (word_of (codes "group") refl) (hex_word _) in
    none_some (line_at line) s (ap line_at (sym (group_is line g is)) ∙ none) e)

pub step_no_config : (line : List ℕ) (s : Line) → line_at line ≡ Some s → config_at line ≡ None
step_no_config line s e = is_nothing (config_at line) (λ c is.
    let none = no_step (codes "config") _ config_number (word_of (codes "config") refl) (hex_word _) in
    none_some (line_at line) s (ap line_at (sym (config_is line c is)) ∙ none) e)

apart : (g : List ℕ) (c : Config) → group_line g ≡ config_line c → ⊥
apart g c e = absurd (omega (arith, ap (λ l. slice_index l 0) e))

pub config_no_group : (line : List ℕ) (c : Config) → config_at line ≡ Some c → group_at line ≡ None
config_no_group line c e = is_nothing (group_at line) (λ g is. apart g c (group_is line g is ∙ sym (config_is line c e)))
