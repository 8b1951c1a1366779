-- The codes of creations and changes: what keeping adds to them, and what follows where they are 0.
use Rattle.std.proofs.Common.{ℕ, ◌≡◌, ◌≤◌, ◌<◌, ◌==◌, ◌&&◌, ◌||◌, ◌∙◌, Bool, true, false, not, cond, List, [], ◌∷◌, ◌++◌, Option, None}
use Rattle.std.proofs.Common.{Some, length, take, drop, refl, ap, sym, subst, inl, inr}
use Rattle.std.specs.Prelude.{nat_le, nat_lt, option_map}
use Rattle.std.specs.List.{list_any}
use Rattle.std.proofs.lemmas.Bool.{cases_Bool, false≢true, leb-false, ltb-false, ne_eqb}
use Rattle.scm_model.specs.declared.calls.ChangeService.{ChangeService}
use Rattle.scm_model.specs.declared.calls.NewService.{NewService}
use Rattle.scm_model.specs.declared.flat.Config.{Config}
use Rattle.scm_model.specs.declared.flat.Flat.{Flat}
use Rattle.scm_model.specs.declared.flat.Limits.{Limits}
use Rattle.scm_model.specs.declared.flat.Service.{Service}
use Rattle.scm_model.specs.declared.steps.Kept.{Kept}
use Rattle.scm_model.specs.declared.steps.Kept.TheVariants as appended
use Rattle.scm_model.specs.declared.calls.Reply.TheVariants as reply
use Rattle.scm_model.specs.declared.calls.Request.{Request}
use Rattle.scm_model.specs.declared.calls.Request.TheVariants as request
use Rattle.scm_model.specs.Refused.{Refusals, first_refusal, outcome, refused}
use Rattle.scm_model.specs.Outcomes.{CallResult}
use Rattle.service_record.specs.Checks.{check_new, has_bad_lists, has_bad_names, has_bad_numbers, has_bad_texts, is_bad_account}
use Rattle.service_record.specs.Checks.{is_bad_line, is_longer}
use Rattle.service_record.specs.Words.{has_word}
use Rattle.std.specs.Char.Utf16.{has_unpaired_surrogate}
use Rattle.scm_rules.specs.Change.{asked_refusals, clash_refusals, row_refusals, asked_config, change_done, change_refusals, change_verdict}
use Rattle.scm_rules.specs.Change.{checked, new_config, tags_no_group}
use Rattle.scm_rules.specs.Create.{config_refusals, place_refusals, right_refusals, created_config, create_done, create_refusals}
use Rattle.scm_rules.specs.Create.{create_verdict, tags_nothing}
use Rattle.scm_rules.specs.Delete.{is_failed}
use Rattle.scm_rules.specs.Needs.{are_unreadable}
use Rattle.scm_arms_service.specs.Judged.{code_once_kept}
use Rattle.scm_model.specs.Rows.{held_service}
use Rattle.scm_tables.specs.Tabled.{HasShortTexts}

-- ## Refusals

-- no code is 0
abbrev pub AreCodes : Refusals → Type 0
AreCodes [] = Unit {0}
AreCodes (row ∷ rows) = ((row.1 == 0) ≡ false) × AreCodes rows

-- no test holds
abbrev pub ArePassed : Refusals → Type 0
ArePassed [] = Unit {0}
ArePassed (row ∷ rows) = (row.0 ≡ false) × ArePassed rows

-- the last test decides where the others pass
pub last_refusal : (rows : Refusals) → AreCodes rows → (b : Bool)
    → first_refusal (rows ++ (b, 1013) ∷ []) ≡ cond (first_refusal (rows ++ (false, 1013) ∷ []) == 0 && b) 1013
    (first_refusal (rows ++ (false, 1013) ∷ []))
last_refusal [] codes b = refl
last_refusal (row ∷ rows) codes b =
    elim row.0 as (λ t. cond t row.1 (first_refusal (rows ++ (b, 1013) ∷ []))
    ≡ cond (cond t row.1 (first_refusal (rows ++ (false, 1013) ∷ [])) == 0 && b) 1013
    (cond t row.1 (first_refusal (rows ++ (false, 1013) ∷ []))))
    [ true ↦ rw codes.0 refl | false ↦ last_refusal rows codes.1 b ]

-- at 0 every test passed
pub passed : (rows : Refusals) → AreCodes rows → first_refusal rows ≡ 0 → ArePassed rows
passed [] codes e = tt
passed (row ∷ rows) codes e =
    elim row.0 as (λ t. row.0 ≡ t → cond t row.1 (first_refusal rows) ≡ 0 → ArePassed (row ∷ rows)) [
      | true ↦ λ is z. absurd (false≢true (sym codes.0 ∙ ap (λ (code : ℕ). code == 0) z))
      | false ↦ λ is z. (is, passed rows codes.1 z)
    ] refl e

-- where the first tests pass the others decide
goes_on : (rows more : Refusals) → AreCodes rows → first_refusal rows ≡ 0 → first_refusal (rows ++ more) ≡ first_refusal more
goes_on [] more codes e = refl
goes_on (row ∷ rows) more codes e =
    elim row.0 as (λ t. cond t row.1 (first_refusal rows) ≡ 0 → cond t row.1 (first_refusal (rows ++ more)) ≡ first_refusal more) [
      | true ↦ λ z. absurd (false≢true (sym codes.0 ∙ ap (λ (code : ℕ). code == 0) z))
      | false ↦ λ z. goes_on rows more codes.1 z
    ] e

-- the first test that holds decides
stops : (rows more : Refusals) → (first_refusal rows ≡ 0 → ⊥) → first_refusal (rows ++ more) ≡ first_refusal rows
stops [] more other = absurd (other refl)
stops (row ∷ rows) more other =
    elim row.0 as (λ t. (cond t row.1 (first_refusal rows) ≡ 0 → ⊥) → cond t row.1 (first_refusal (rows ++ more)) ≡ cond t row.1
    (first_refusal rows)) [
      | true ↦ λ o. refl
      | false ↦ λ o. stops rows more o
    ] other

-- a call that is refused makes no change
pub refused_outcome : (told code : ℕ) (asked : Request) (f : Flat) (done : CallResult) → told ≡ code → (code ≡ 0 → ⊥)
    → outcome told asked f done ≡ record { reply = refused asked code; flat = f }
refused_outcome told code asked f done is other = rw (is, ne_eqb code 0 other) refl

-- one that isn't makes its change
done_outcome : (told code : ℕ) (asked : Request) (f : Flat) (done : CallResult) → told ≡ code → code ≡ 0 → outcome told asked f done ≡ done
done_outcome told code asked f done is zero = rw (is, zero) refl

-- ## Checks

-- a path that is too long is refused
long_refused : (names numbers wordless long broken group description command lists account : Bool) → long ≡ true
    → (cond names 123 (cond (numbers || ((wordless || long || broken) || group || description || command) || lists) 87
    (cond account 1057 0)) == 123) ≡ false
    → (cond names 123 (cond (numbers || ((wordless || long || broken) || group || description || command) || lists) 87
    (cond account 1057 0)) == 87) ≡ false
    → ⊥
long_refused true numbers wordless long broken group description command lists account is p q = false≢true (sym p)
long_refused false true wordless long broken group description command lists account is p q = false≢true (sym q)
long_refused false false true long broken group description command lists account is p q = false≢true (sym q)
long_refused false false false true broken group description command lists account is p q = false≢true (sym q)
long_refused false false false false broken group description command lists account is p q = false≢true is

-- a configuration that passes has a path that isn't too long
short_path : (config : Config) (account : Option (List ℕ)) → (check_new config account == 123) ≡ false
    → (check_new config account == 87) ≡ false → length config.path ≤ 2048
unfolding check_new
short_path config account names texts =
    elim (cases_Bool (is_longer 2048 config.path)) [
      | inl long ↦ absurd
          (long_refused (has_bad_names config) (has_bad_numbers config) (not (has_word config.path)) (is_longer 2048 config.path)
          (has_unpaired_surrogate config.path)
          (is_longer 256 config.group) (is_longer 2048 config.description) (not (length config.command == 0) && is_bad_line config.command)
          (has_bad_lists config)
          (is_bad_account account) long names texts)
      | inr short ↦ ltb-false 2048 (length config.path) short
    ]

-- so is a command
long_command : (names numbers path group description empty wordless long broken lists account : Bool) → long ≡ true → empty ≡ false
    → (cond names 123 (cond (numbers || (path || group || description || (not empty && (wordless || long || broken))) || lists) 87
    (cond account 1057 0)) == 123) ≡ false
    → (cond names 123 (cond (numbers || (path || group || description || (not empty && (wordless || long || broken))) || lists) 87
    (cond account 1057 0)) == 87) ≡ false
    → ⊥
long_command true numbers path group description empty wordless long broken lists account is some p q = false≢true (sym p)
long_command false true path group description empty wordless long broken lists account is some p q = false≢true (sym q)
long_command false false true group description empty wordless long broken lists account is some p q = false≢true (sym q)
long_command false false false true description empty wordless long broken lists account is some p q = false≢true (sym q)
long_command false false false false true empty wordless long broken lists account is some p q = false≢true (sym q)
long_command false false false false false true wordless long broken lists account is some p q = false≢true (sym some)
long_command false false false false false false true long broken lists account is some p q = false≢true (sym q)
long_command false false false false false false false true broken lists account is some p q = false≢true (sym q)
long_command false false false false false false false false broken lists account is some p q = false≢true is

-- and has units
some_units : (units : ℕ) → nat_lt 2048 units ≡ true → (units == 0) ≡ false
some_units units e = ne_eqb units 0 (λ z. false≢true (ap (λ n. nat_lt 2048 n) (sym z) ∙ e))

short_command : (config : Config) (account : Option (List ℕ)) → (check_new config account == 123) ≡ false
    → (check_new config account == 87) ≡ false → length config.command ≤ 2048
unfolding check_new
short_command config account names texts =
    elim (cases_Bool (is_longer 2048 config.command)) [
      | inl long ↦ absurd
          (long_command (has_bad_names config) (has_bad_numbers config) (is_bad_line config.path) (is_longer 256 config.group)
          (is_longer 2048 config.description)
          (length config.command == 0) (not (has_word config.command)) (is_longer 2048 config.command)
          (has_unpaired_surrogate config.command) (has_bad_lists config)
          (is_bad_account account) long (some_units (length config.command) long) names texts)
      | inr short ↦ ltb-false 2048 (length config.command) short
    ]

-- where it isn't refused for its names, these aren't bad
good_names : (bad : Bool) (rest : ℕ) → (cond bad 123 rest == 123) ≡ false → bad ≡ false
good_names true rest e = e
good_names false rest e = refl

not_longer : (empty longer signs shown : Bool) → ((empty || longer || signs) || shown) ≡ false → longer ≡ false
not_longer true longer signs shown e = absurd (false≢true (sym e))
not_longer false true signs shown e = e
not_longer false false signs shown e = refl

-- its name isn't too long either
short_name : (config : Config) (account : Option (List ℕ)) → (check_new config account == 123) ≡ false → length config.name ≤ 256
unfolding check_new
short_name config account names =
    ltb-false 256 (length config.name)
    (not_longer (length config.name == 0) (is_longer 256 config.name) (list_any (λ u. u == 47 || u == 92) config.name)
    (is_longer 256 config.display)
    (good_names (has_bad_names config) (first_refusal ((has_bad_numbers config || has_bad_texts config || has_bad_lists config, 87) ∷
    (is_bad_account account, 1057) ∷ [])) names))

pub short_texts : (config : Config) (account : Option (List ℕ)) → (check_new config account == 123) ≡ false
    → (check_new config account == 87) ≡ false → HasShortTexts config
short_texts config account names texts = record {
  path = short_path config account names texts;
  command = short_command config account names texts;
  name = short_name config account names;
}

-- of three tests that fail the first fails
first_false : (a b c : Bool) → (a || b || c) ≡ false → a ≡ false
first_false true b c e = e
first_false false b c e = refl

either_false : (a b : Bool) → (a || b) ≡ false → a ≡ false
either_false true b e = e
either_false false b e = refl

-- ## Creations

-- keeping adds its own refusal to a creation's
created_once_kept : (l : Limits) (f : Flat) (caller : ℕ) (new : NewService) (append : Kept)
    → create_verdict l f caller new append ≡ code_once_kept (create_verdict l f caller new appended.Kept) append
created_once_kept l f caller new append =
    last_refusal (take 10 (create_refusals l f caller new append)) (
      refl,
      (refl, (refl, (refl, (refl, (refl, (refl, (refl, (refl, (refl, tt))))))))),
    ) (is_failed append)

-- a creation that isn't refused has texts that aren't too long
created_texts : (l : Limits) (f : Flat) (caller : ℕ) (new : NewService) (append : Kept) → create_verdict l f caller new append ≡ 0
    → HasShortTexts (created_config f new)
created_texts l f caller new append e =
    let all : ArePassed (create_refusals l f caller new append) = passed (create_refusals l f caller new append)
    (refl, (refl, (refl, (refl, (refl, (refl, (refl, (refl, (refl, (refl, (refl, tt))))))))))) e in
    short_texts (created_config f new) new.account all.1.1.0 (first_false (check_new (created_config f new) new.account == 87)
    (tags_nothing new) (are_unreadable new.needs) all.1.1.1.0)

-- nor is it where as many services are there as may be
pub created_few : (l : Limits) (f : Flat) (caller : ℕ) (new : NewService) (append : Kept) → create_verdict l f caller new append ≡ 0
    → length f.services < l.services
created_few l f caller new append e =
    let all : ArePassed (create_refusals l f caller new append) = passed (create_refusals l f caller new append)
    (refl, (refl, (refl, (refl, (refl, (refl, (refl, (refl, (refl, (refl, (refl, tt))))))))))) e in
    leb-false l.services (length f.services) (either_false (nat_le l.services (length f.services)) _ all.1.1.1.1.1.1.1.1.1.0)

-- what the rights deny is a creation's code
pub create_denied : (l : Limits) (f : Flat) (caller : ℕ) (new : NewService) (denied : ℕ)
    → denied ≡ first_refusal (right_refusals f caller new) → (denied ≡ 0 → ⊥)
    → denied ≡ create_verdict l f caller new appended.Kept
create_denied l f caller new denied denied_is other =
    let rows : Refusals = create_refusals l f caller new appended.Kept in
    denied_is ∙ sym (stops (take 2 rows) (drop 2 rows) (λ z. other (denied_is ∙ z)))

-- what the rights allow
allowed : (l : Limits) (f : Flat) (caller : ℕ) (new : NewService) (denied : ℕ) → denied ≡ first_refusal (right_refusals f caller new)
    → denied ≡ 0
    → create_verdict l f caller new appended.Kept ≡ first_refusal (config_refusals new (created_config f new)
    ++ drop 5 (create_refusals l f caller new appended.Kept))
allowed l f caller new denied denied_is may =
    let rows : Refusals = create_refusals l f caller new appended.Kept in
    goes_on (take 2 rows) (drop 2 rows) (refl, (refl, tt)) (sym denied_is ∙ may)

-- the code for what is asked, of the configuration that was made
wrong_of : (f : Flat) (new : NewService) (config : Config) (wrong : ℕ) → config ≡ created_config f new
    → wrong ≡ first_refusal (config_refusals new config)
    → wrong ≡ first_refusal (config_refusals new (created_config f new))
wrong_of f new config wrong is wrong_is = wrong_is ∙ ap (λ (c : Config). first_refusal (config_refusals new c)) is

-- what is asked wrongly is a creation's code where the rights allow it
pub create_wrong : (l : Limits) (f : Flat) (caller : ℕ) (new : NewService) (config : Config) (denied wrong : ℕ)
    → config ≡ created_config f new
    → denied ≡ first_refusal (right_refusals f caller new) → denied ≡ 0 → wrong ≡ first_refusal (config_refusals new config)
    → (wrong ≡ 0 → ⊥)
    → wrong ≡ create_verdict l f caller new appended.Kept
create_wrong l f caller new config denied wrong is denied_is may wrong_is other =
    let told = wrong_of f new config wrong is wrong_is in
    told
    ∙ sym
    (allowed l f caller new denied denied_is may
    ∙ stops (config_refusals new (created_config f new)) (drop 5 (create_refusals l f caller new appended.Kept)) (λ z. other (told ∙ z)))

-- else the services that there are decide
pub create_goes_on : (l : Limits) (f : Flat) (caller : ℕ) (new : NewService) (config : Config) (denied wrong : ℕ)
    → config ≡ created_config f new
    → denied ≡ first_refusal (right_refusals f caller new) → denied ≡ 0 → wrong ≡ first_refusal (config_refusals new config) → wrong ≡ 0
    → first_refusal (place_refusals l f caller config) ≡ create_verdict l f caller new appended.Kept
create_goes_on l f caller new config denied wrong is denied_is may wrong_is right =
    ap (λ (c : Config). first_refusal (place_refusals l f caller c)) is
    ∙ sym
    (allowed l f caller new denied denied_is may
    ∙ goes_on (config_refusals new (created_config f new)) (drop 5 (create_refusals l f caller new appended.Kept))
    (refl, (refl, (refl, tt)))
    (sym (wrong_of f new config wrong is wrong_is) ∙ right))

-- the code of a creation once it is kept
pub create_code : (l : Limits) (f : Flat) (caller : ℕ) (new : NewService) (append : Kept) (code result : ℕ)
    → code ≡ create_verdict l f caller new appended.Kept → result ≡ code_once_kept code append
    → create_verdict l f caller new append ≡ result
create_code l f caller new append code result is made =
    created_once_kept l f caller new append ∙ ap (λ (n : ℕ). code_once_kept n append) (sym is) ∙ sym made

-- a creation that is refused makes no change
pub create_refused : (l : Limits) (f : Flat) (caller : ℕ) (new : NewService) (append : Kept) (code result : ℕ)
    → code ≡ create_verdict l f caller new appended.Kept → result ≡ code_once_kept code append
    → (result ≡ 0 → ⊥)
    → record { reply = reply.Made new.tag 0 result; flat = f } ≡ outcome (create_verdict l f caller new append) (request.Create new) f
    (create_done f caller new)
create_refused l f caller new append code result is made other =
    sym (refused_outcome (create_verdict l f caller new append) result (request.Create new) f (create_done f caller new)
    (create_code l f caller new append code result is made) other)

-- one that isn't creates the service
pub create_allowed : (l : Limits) (f : Flat) (caller : ℕ) (new : NewService) (append : Kept) (code result : ℕ)
    → code ≡ create_verdict l f caller new appended.Kept → result ≡ code_once_kept code append
    → result ≡ 0 → create_done f caller new ≡ outcome (create_verdict l f caller new append) (request.Create new) f
    (create_done f caller new)
create_allowed l f caller new append code result is made zero =
    sym (done_outcome (create_verdict l f caller new append) result (request.Create new) f (create_done f caller new)
    (create_code l f caller new append code result is made) zero)

-- a creation that is done has a path that isn't too long
pub create_fits : (l : Limits) (f : Flat) (caller : ℕ) (new : NewService) (append : Kept) (code result : ℕ)
    → code ≡ create_verdict l f caller new appended.Kept → result ≡ code_once_kept code append
    → result ≡ 0 → HasShortTexts (created_config f new)
create_fits l f caller new append code result is made zero = created_texts l f caller new append
    (create_code l f caller new append code result is made ∙ zero)

-- ## Changes

-- one configuration
pub some_of : (a b : Config) → Some a ≡ Some b → a ≡ b
some_of a b e = cc

-- where a service isn't marked the other tests decide
row_judged : (f : Flat) (change : ChangeService) (row : Service) → row.marked ≡ false
    → first_refusal (row_refusals f change (Some row)) ≡ first_refusal (asked_refusals f change (Some row)
    ++ clash_refusals f change (Some row))
row_judged f change row unmarked =
    ap (λ (b : Bool). cond b 1072 (first_refusal (asked_refusals f change (Some row) ++ clash_refusals f change (Some row)))) unmarked

-- what is asked wrongly is a change's code
pub row_wrong : (f : Flat) (change : ChangeService) (row : Service) (wrong : ℕ) → row.marked ≡ false
    → wrong ≡ first_refusal (asked_refusals f change (Some row)) → (wrong ≡ 0 → ⊥)
    → wrong ≡ first_refusal (row_refusals f change (Some row))
row_wrong f change row wrong unmarked wrong_is other =
    wrong_is ∙ sym (row_judged f change row unmarked ∙ stops (asked_refusals f change (Some row)) (clash_refusals f change (Some row))
    (λ z. other (wrong_is ∙ z)))

-- else the services that there are decide
pub row_goes_on : (f : Flat) (change : ChangeService) (row : Service) (wrong : ℕ) → row.marked ≡ false
    → wrong ≡ first_refusal (asked_refusals f change (Some row)) → wrong ≡ 0
    → first_refusal (clash_refusals f change (Some row)) ≡ first_refusal (row_refusals f change (Some row))
row_goes_on f change row wrong unmarked wrong_is right =
    sym
    (row_judged f change row unmarked
    ∙ goes_on (asked_refusals f change (Some row)) (clash_refusals f change (Some row)) (refl, (refl, (refl, tt))) (sym wrong_is ∙ right))

-- keeping adds its own refusal to a change's
changed_once_kept : (f : Flat) (caller : ℕ) (change : ChangeService) (append : Kept)
    → change_verdict f caller change append ≡ code_once_kept (change_verdict f caller change appended.Kept) append
changed_once_kept f caller change append =
    last_refusal (take 8 (change_refusals f caller change append)) (refl, (refl, (refl, (refl, (refl, (refl, (refl, (refl, tt))))))))
    (is_failed append)

-- a change that isn't refused leaves texts that aren't too long
changed_texts : (f : Flat) (caller : ℕ) (change : ChangeService) (append : Kept) (config : Config)
    → change_verdict f caller change append ≡ 0 → asked_config f caller change ≡ Some config → HasShortTexts config
changed_texts f caller change append config e asked =
    let all : ArePassed (change_refusals f caller change append) = passed (change_refusals f caller change append)
    (refl, (refl, (refl, (refl, (refl, (refl, (refl, (refl, (refl, tt))))))))) e in
    elim (held_service f caller change.handle) as (λ service. (checked f change service == 123) ≡ false
    → (checked f change service == 87) ≡ false
    → option_map (new_config f change) service ≡ Some config → HasShortTexts config) [
      | None ↦ λ names texts is. absurd cc
      | Some row ↦ λ names texts is. subst HasShortTexts (some_of (new_config f change row) config is)
          (short_texts (new_config f change row) change.account names texts)
    ] all.1.1.1.0 (first_false (checked f change (held_service f caller change.handle) == 87)
    (tags_no_group change (held_service f caller change.handle)) (are_unreadable change.needs) all.1.1.1.1.0) asked

-- the code of a change once it is kept
pub change_code : (f : Flat) (caller : ℕ) (change : ChangeService) (append : Kept) (code result : ℕ)
    → code ≡ change_verdict f caller change appended.Kept → result ≡ code_once_kept code append
    → change_verdict f caller change append ≡ result
change_code f caller change append code result is made =
    changed_once_kept f caller change append ∙ ap (λ (n : ℕ). code_once_kept n append) (sym is) ∙ sym made

-- a change that is refused makes no change
pub change_refused : (f : Flat) (caller : ℕ) (change : ChangeService) (append : Kept) (code result : ℕ)
    → code ≡ change_verdict f caller change appended.Kept → result ≡ code_once_kept code append
    → (result ≡ 0 → ⊥)
    → record { reply = reply.Tag change.tag result; flat = f } ≡ outcome (change_verdict f caller change append) (request.Change change) f
    (change_done f caller change)
change_refused f caller change append code result is made other =
    sym (refused_outcome (change_verdict f caller change append) result (request.Change change) f (change_done f caller change)
    (change_code f caller change append code result is made) other)

-- a change that is done leaves a path that isn't too long
pub change_fits : (f : Flat) (caller : ℕ) (change : ChangeService) (append : Kept) (code result : ℕ) (config : Config)
    → code ≡ change_verdict f caller change appended.Kept → result ≡ code_once_kept code append
    → result ≡ 0 → asked_config f caller change ≡ Some config → HasShortTexts config
change_fits f caller change append code result config is made zero asked =
    changed_texts f caller change append config (change_code f caller change append code result is made ∙ zero) asked
