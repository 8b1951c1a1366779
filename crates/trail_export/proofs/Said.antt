-- The entries of a history that has codes have lines that say them.
use Rattle.std.proofs.Common.{◌<◌, ◌^◌, [], ◌∷◌}
use Rattle.std.specs.Prelude.{IsTrue}
use Rattle.std.proofs.lemmas.List.Elements.{recursion_from_All}
use Rattle.scm_model.specs.declared.steps.Step.{Step}
use Rattle.scm_model.specs.declared.steps.Step.TheVariants.{Joined, Call, EndStart, LaunchTaken, Launched, LaunchFailed, Report, Ended}
use Rattle.scm_model.specs.declared.steps.Step.TheVariants.{ControlTaken, Tick, Raised, Gone, NoMemory}
use Rattle.scm_model.specs.Entries.{Entry}
use Rattle.scm_model.specs.Opnums.{opnum}
use Rattle.scm_model.specs.Ranges.{in_range}
use Rattle.scm_model.specs.Texts.{text_of}
use Rattle.step_code.specs.Codes.{appended, code_of, fields, n2, n8, request_code, step_code, subtype}
use Rattle.step_code.specs.Fits.{HasCode}
use Rattle.scm_trail.specs.Segments.{IsByte, IsCoded}
use Rattle.scm_lines.specs.Entries.{HasLine, HasWords}
use Rattle.trail_export.proofs.Bodies.{AreBytes, by_place, rest_bytes}
use Rattle.trail_export.proofs.Carried.{body_bytes_fit, carried, field}

-- a request is in its ranges
abbrev pub IsRanged : Step → Type 0
IsRanged (Call caller asked append) = IsTrue (in_range asked)
IsRanged _ = Unit {0}

words_of : (step : Step) → HasCode step → AreBytes (step_code step) → text_of step < 2 ^ 32 → IsRanged step → HasWords step
words_of (Joined by) fits bytes small ranged = tt
words_of (Call caller asked append) fits bytes small ranged = (
  fits.0,
  ranged,
  carried asked fits.1 small,
  body_bytes_fit asked (rest_bytes (n2 (opnum asked)) (fields asked)
      (field 1 (n8 caller ∷ request_code asked ∷ (appended append ∷ []) ∷ []) bytes.1)),
)
words_of (EndStart caller plan) fits bytes small ranged = fits
words_of LaunchTaken fits bytes small ranged = tt
words_of (Launched process pid) fits bytes small ranged = fits
words_of (LaunchFailed process code) fits bytes small ranged = fits
words_of (Report process service reported) fits bytes small ranged =
    let s = fits.2 in
    (fits.0, fits.1, (s.kind, (s.state, (s.accepted, (s.win32, (s.specific, (s.checkpoint, (s.hint, tt))))))))
words_of (Ended process) fits bytes small ranged = fits
words_of (ControlTaken process) fits bytes small ranged = fits
words_of Tick fits bytes small ranged = tt
words_of (Raised caller id) fits bytes small ranged =
    (fits.0, fits.1, by_place id (field 1 (n8 caller ∷ subtype id ∷ []) bytes.1))
words_of (Gone caller) fits bytes small ranged = fits
words_of (NoMemory caller) fits bytes small ranged = fits

pub line_of_code : (e : Entry) → IsCoded e → text_of e.1 < 2 ^ 32 → IsRanged e.1 → HasLine e
line_of_code e coded small ranged =
    let bytes = recursion_from_All IsByte (code_of e) coded.bytes in
    (coded.fits.0, words_of e.1 coded.fits.1 (rest_bytes (n8 e.0) (step_code e.1) bytes) small ranged)
