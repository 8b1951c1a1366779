-- What words name, as a run is told it.
use Rattle.std.proofs.Common.{ℕ, ◌≡◌, ◌∙◌, List, Option, None, Some, sym, ap, subst}
use Rattle.std.specs.Prelude.{Bool, IfSome, IsNone, option_and_then, is_some, ◌↔◌}
use Rattle.std.specs.Borrow.{Bor}
use Rattle.outside.specs.Asked.{text_of}
use Rattle.scmd_top.specs.declared.words.Task.{Task}
use Rattle.scmd_top.specs.Groups.{groups_in}
use Rattle.scmd_top.specs.Modes.{groups_listed}
use Rattle.scmd_top.specs.Parts.{IsText, lent}
use Rattle.scmd_top.specs.Words.{Mode, listed_groups, mode_by, mode_of, names_file, names_store, path_of, store_of, task_of}

same_name : (name : Option (List ℕ)) (lent : Option (Bor (List ℕ))) → IsText name lent → is_some lent ≡ is_some name
same_name name None is = ap is_some (sym is)
same_name name (Some x) is = ap is_some (sym is)

same_text : (name : Option (List ℕ)) (lent : Option (Bor (List ℕ))) → IsText name lent → text_of lent ≡ name
same_text name None is = sym is
same_text name (Some x) is = sym is

same_groups : (words : List (List ℕ)) (names : Option (Bor (List ℕ))) → IsText (listed_groups words) names
    → groups_in (lent names) ≡ groups_listed words
same_groups words None is = ap groups_in (sym is)
same_groups words (Some x) is = ap groups_in (sym is)

-- words, and what is lent of them
pub record AreNamed (words : List (List ℕ)) (task : Task) (path store names : Option (Bor (List ℕ))) : Type 0 where
  pub task_is : task_of words ≡ Some task
  pub path_is : IsText (path_of words) path
  pub store_is : IsText (store_of words) store
  pub names_are : IsText (listed_groups words) names

pub named : (words : List (List ℕ)) (task : Task) (found : Option Task) (path store names : Option (Bor (List ℕ))) → found ≡ task_of words
    → found ≡ Some task → IsText (path_of words) path → IsText (store_of words) store → IsText (listed_groups words) names
    → AreNamed words task path store names
named words task found path store names of is a_path a_store a_list =
    record { task_is = sym of ∙ is; path_is = a_path; store_is = a_store; names_are = a_list }

module _ (words : List (List ℕ)) (task : Task) (path store names : Option (Bor (List ℕ))) (named : AreNamed words task path store names)
  where
    pub same_mode : mode_by task (is_some path) (is_some store) ≡ mode_of words
    same_mode =
        ap (λ (b : Bool). mode_by task b (is_some store)) (same_name (path_of words) path named.path_is)
        ∙ ap (λ (b : Bool). mode_by task (names_file words) b) (same_name (store_of words) store named.store_is)
        ∙ ap (λ (o : Option Task). option_and_then (λ (t : Task). mode_by t (names_file words) (names_store words)) o) (sym named.task_is)

    pub as_named : (P : Bool → List (List ℕ) → Mode → Type 0)
        → IfSome (mode_by task (is_some path) (is_some store)) (λ mode. P (is_some path) (groups_in (lent names)) mode)
        → IfSome (mode_of words) (λ mode. P (names_file words) (groups_listed words) mode)
    as_named P run =
        subst (λ (m : Option Mode). IfSome m (λ mode. P (names_file words) (groups_listed words) mode)) same_mode
        (subst (λ (b : Bool). IfSome (mode_by task (is_some path) (is_some store)) (λ mode. P b (groups_listed words) mode))
        (same_name (path_of words) path named.path_is)
        (subst (λ (gs : List (List ℕ)). IfSome (mode_by task (is_some path) (is_some store)) (λ mode. P (is_some path) gs mode))
        (same_groups words names named.names_are) run))

    pub files_named : (P : Option (List ℕ) → Option (List ℕ) → Mode → Type 0)
        → IfSome (mode_by task (is_some path) (is_some store)) (λ mode. P (text_of path) (text_of store) mode)
        → IfSome (mode_of words) (λ mode. P (path_of words) (store_of words) mode)
    files_named P opens =
        subst (λ (m : Option Mode). IfSome m (λ mode. P (path_of words) (store_of words) mode)) same_mode
        (subst (λ (text : Option (List ℕ)). IfSome (mode_by task (is_some path) (is_some store)) (λ mode. P text (store_of words) mode))
        (same_text (path_of words) path named.path_is)
        (subst (λ (text : Option (List ℕ)). IfSome (mode_by task (is_some path) (is_some store)) (λ mode. P (text_of path) text mode))
        (same_text (store_of words) store named.store_is) opens))

    pub none_named : (status : ℕ) → (status ≡ 5 ↔ IsNone (mode_by task (is_some path) (is_some store)))
        → (status ≡ 5 ↔ IsNone (mode_of words))
    none_named status is = subst (λ (m : Option Mode). status ≡ 5 ↔ IsNone m) same_mode is

-- what holds of the mode of a task and of what is lent holds of the mode of the words
pub by_task : (words : List (List ℕ)) (task : Task) (found : Option Task) (path store names : Option (Bor (List ℕ))) → found ≡ task_of words
    → found ≡ Some task → IsText (path_of words) path → IsText (store_of words) store → IsText (listed_groups words) names
    → (P : Bool → List (List ℕ) → Mode → Type 0)
    → IfSome (mode_by task (is_some path) (is_some store)) (λ mode. P (is_some path) (groups_in (lent names)) mode)
    → IfSome (mode_of words) (λ mode. P (names_file words) (groups_listed words) mode)
by_task words task found path store names of is a_path a_store a_list P run =
    as_named words task path store names (named words task found path store names of is a_path a_store a_list) P run
