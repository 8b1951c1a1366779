-- What is written of limits, a moment, a group and a configuration is read as that.
use Rattle.std.proofs.Common.{ℕ, zero, suc, ◌≡◌, ◌*◌, ◌/◌, ◌<◌, ◌^◌, ◌==◌, cond, false, List, [], ◌∷◌, ◌++◌, length, map, drop}
use Rattle.std.proofs.Common.{Some, None, refl, ap, ◌∙◌, arith}
use Rattle.std.specs.Prelude.{All, codes, decimal, slice_index}
use Rattle.std.specs.Int.{w16, to_le_bytes}
use Rattle.std.specs.List.{AllByRecursion, flat_map, list_any}
use Rattle.std.specs.Result.{result_ok}
use Rattle.std.proofs.lemmas.Bool.{ne_eqb}
use Rattle.std.proofs.lemmas.List.Elements.{All-weaker, recursion_from_All}
use Rattle.std.proofs.lemmas.List.Folds.{list_any_none}
use Rattle.std.proofs.lemmas.Nat.{from_le_bytes-to_le_bytes_2}
use Rattle.std.proofs.lemmas.Slice.Eq.{bytes_eq-Decides}
use Rattle.decimal_words.specs.Numbers.{number_below}
use Rattle.hex.specs.Hex.{IsBytes, encode_lower}
use Rattle.ndr_body.specs.Units.{half, le_units}
use Rattle.scm_model.specs.declared.flat.Config.{Config}
use Rattle.scm_model.specs.declared.flat.Limits.{Limits}
use Rattle.service_record.specs.Spelling.{IsConfig, IsUnit, encoding}
use Rattle.service_record.proofs.Records.{read_back}
use Rattle.scm_lines.specs.Entries.{spaced}
use Rattle.scm_lines.specs.Words.{◌>>=◌}
use Rattle.scm_lines.proofs.Spaced.{IsWord, below_again, decimal_word, hex_again, hex_word, number_again, word_of, words_again}
use Rattle.opening_lines.specs.Heads.{AreInRange, bytes_in_words, config_at, config_line, config_of_bytes, group_at, group_line}
use Rattle.opening_lines.specs.Heads.{group_of_bytes, if_written, later_words, limit_numbers, limits_at, limits_in_words, limits_line}
use Rattle.opening_lines.specs.Heads.{moment_at, moment_in_words, moment_line, text_of_units}

-- ## Lines

-- a line says what it is written of
says : {A : Type 0} (write : A → List ℕ) (x : A) → if_written write (write x) x ≡ Some x
says write x = ap (λ b. cond b (Some x) None) ((bytes_eq-Decides (write x) (write x)).1 refl)

later_again : (name : List ℕ) (words : List (List ℕ)) → IsWord name → AllByRecursion IsWord words → later_words (name ++ spaced words) ≡ words
later_again name words clean others = ap (λ ws. drop 1 ws) (words_again name words clean others)

bytes_again : (name bytes : List ℕ) → IsWord name → IsBytes bytes
    → bytes_in_words (later_words (name ++ spaced (encode_lower bytes ∷ []))) ≡ Some bytes
bytes_again name bytes clean fits =
    ap bytes_in_words (later_again name (encode_lower bytes ∷ []) clean (hex_word bytes, tt))
    ∙ hex_again bytes fits

-- ## Limits and a moment

low_word : (n : ℕ) → n < 2 ^ 32 → IsWord (decimal n)
low_word n low = decimal_word n (omega (arith, low))

low_again : (n : ℕ) → n < 2 ^ 32 → number_below (2 ^ 32) (decimal n) ≡ Some n
low_again n low = below_again (2 ^ 32) n low (omega (arith, low))

limits_words : (l : Limits) → AreInRange l → AllByRecursion IsWord (map decimal (limit_numbers l))
limits_words l fits = (
  low_word l.services fits.services,
  (
    low_word l.handles fits.handles,
    (
      low_word l.registrations fits.registrations,
      (
        low_word l.callers fits.callers,
        (
          low_word l.processes fits.processes,
          (low_word l.controls fits.controls, (decimal_word l.steps fits.steps, (decimal_word l.text fits.text, tt))),
        ),
      ),
    ),
  ),
)

limits_read : (l : Limits) → AreInRange l → limits_in_words (map decimal (limit_numbers l)) ≡ Some l
unfolding limits_in_words
limits_read l fits =
    rw (
      low_again l.services fits.services,
      low_again l.handles fits.handles,
      low_again l.registrations fits.registrations,
      low_again l.callers fits.callers,
      low_again l.processes fits.processes,
      low_again l.controls fits.controls,
      number_again l.steps fits.steps,
      number_again l.text fits.text,
    ) refl

pub limits_again : (l : Limits) → AreInRange l → limits_at (limits_line l) ≡ Some l
limits_again l fits =
    ap (λ words. limits_in_words words >>= if_written limits_line (limits_line l))
    (later_again (codes "limits") (map decimal (limit_numbers l)) (word_of (codes "limits") refl) (limits_words l fits))
    ∙ ap (λ o. o >>= if_written limits_line (limits_line l)) (limits_read l fits)
    ∙ says limits_line l

pub moment_again : (m : ℕ) → m < 2 ^ 64 → moment_at (moment_line m) ≡ Some m
moment_again m small =
    ap (λ words. moment_in_words words >>= if_written moment_line (moment_line m))
    (later_again (codes "moment") (decimal m ∷ []) (word_of (codes "moment") refl) (decimal_word m small, tt))
    ∙ ap (λ o. o >>= if_written moment_line (moment_line m)) (number_again m small)
    ∙ says moment_line m

-- ## Groups

abbrev unit_bytes : List ℕ → List ℕ
unit_bytes us = flat_map (to_le_bytes w16) us

half_again : (u : ℕ) (bytes : List ℕ) → u < 2 ^ 16 → half (to_le_bytes w16 u ++ bytes) ≡ u
unfolding half
half_again u bytes low = from_le_bytes-to_le_bytes_2 u low

units_again : (us : List ℕ) → AllByRecursion IsUnit us → le_units (length us) (unit_bytes us) ≡ us
unfolding le_units
units_again [] fits = refl
units_again (u ∷ us) fits =
    ap (λ v. v ∷ le_units (length us) (unit_bytes us)) (half_again u (unit_bytes us) fits.0.1)
    ∙ ap (λ vs. u ∷ vs) (units_again us fits.1)

units_length : (us : List ℕ) → length (unit_bytes us) ≡ 2 * length us
units_length [] = refl
units_length (u ∷ us) = omega (arith, units_length us)

units_read : (us : List ℕ) → All IsUnit us → le_units (length (unit_bytes us) / 2) (unit_bytes us) ≡ us
units_read us fits =
    let count : length (unit_bytes us) / 2 ≡ length us = omega (arith, units_length us) in
    ap (λ n. le_units n (unit_bytes us)) count ∙ units_again us (recursion_from_All IsUnit us fits)

units_are_bytes : (us : List ℕ) (i : ℕ) → slice_index (unit_bytes us) i < 256
units_are_bytes [] i = omega arith
units_are_bytes (u ∷ us) zero = omega arith
units_are_bytes (u ∷ us) (suc zero) = omega arith
units_are_bytes (u ∷ us) (suc (suc i)) = units_are_bytes us i

no_zero : (us : List ℕ) → All IsUnit us → list_any (λ u. u == 0) us ≡ false
no_zero us fits =
    list_any_none (λ u. u == 0) us
    (All-weaker IsUnit (λ u. (u == 0) ≡ false) (λ u is. ne_eqb u 0 (λ e. omega (arith, is.0, e))) us fits)

pub group_again : (group : List ℕ) → All IsUnit group → group_at (group_line group) ≡ Some group
group_again group fits =
    ap (λ o. o >>= group_of_bytes >>= if_written group_line (group_line group))
    (bytes_again (codes "group") (unit_bytes group) (word_of (codes "group") refl) (units_are_bytes group))
    ∙ ap (λ us. text_of_units us >>= if_written group_line (group_line group)) (units_read group fits)
    ∙ ap (λ b. cond b None (Some group) >>= if_written group_line (group_line group)) (no_zero group fits)
    ∙ says group_line group

-- ## Configurations

pub config_again : (config : Config) → IsConfig config → IsBytes (encoding config) → config_at (config_line config) ≡ Some config
config_again config is fits =
    ap (λ o. o >>= config_of_bytes >>= if_written config_line (config_line config))
    (bytes_again (codes "config") (encoding config) (word_of (codes "config") refl) fits)
    ∙ ap (λ r. result_ok r >>= if_written config_line (config_line config)) (read_back config (encoding config) is refl)
    ∙ says config_line config
