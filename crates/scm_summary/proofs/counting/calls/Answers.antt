use Rattle.std.proofs.Common.{◌≡◌, ◌∙◌, ℕ, [], List, ap, arith, drop, length, subst}
use Rattle.std.proofs.lemmas.List.{take_at}
use Rattle.scm_summary.specs.Calls.{joined_in}
use Rattle.scm_summary.specs.Counting.{CountsTo}
use Rattle.scm_summary.proofs.Counts.{all_listed}
use Rattle.scm_summary.proofs.counting.calls.Goals as goal

pub returns-in-Ok : goal.returns-in-Ok
returns-in-Ok c =
    let h = c.args.trail.now.entries in
    let counts = c.in_ok-counts.counts in
    let now = c.count_calls.new.counts in
    let told : CountsTo h [] (length c.deref_mut.result.now) now = c.in-Ok.ensures in
    let value = ap (λ (xs : List ℕ). length xs) c.deref_mut.ensures.value in
    let long = told.long in
    let own = counts.ok.0 in
    let zeros = c.in_ok-counts.ensures.long in
    let joined = c.in_ok-joined_in.ensures in
    let callers : length c.deref_mut.result.now ≡ joined_in h = omega (arith, value, zeros, joined) in
    take_at now (drop (length now) counts.items) counts.len (omega (arith, long, value, own))
    ∙ all_listed h (joined_in h) now (subst (λ n. CountsTo h [] n now) callers told)
