-- A start that is refused.
use Rattle.std.specs.Prelude.{ℕ, List, Option}
use Rattle.scm_model.specs.declared.flat.Flat.{Flat}
use Rattle.scm_model.specs.declared.calls.Request.TheVariants as request
use Rattle.scm_model.specs.Outcomes.{CallResult}
use Rattle.scm_rules.specs.Start.{start_verdict}
use Rattle.scm_rules.specs.Verdicts.{told_refused}

abbrev pub start_refused : Flat → ℕ → ℕ → Option (List (List ℕ)) → CallResult
start_refused f caller handle words = record {
  reply = told_refused f caller (request.Start handle words) (start_verdict f caller handle words);
  flat = f;
}
