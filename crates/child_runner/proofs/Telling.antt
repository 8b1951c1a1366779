-- A launch that was taken in hand, and what was told of it.
use Rattle.std.proofs.Common.{◌≡◌, ℕ, List, ap, ◌∙◌}
use Rattle.scm_text.specs.TextWithRoom.{TextWithRoom}
use Rattle.scm_model.specs.declared.steps.Answer.TheVariants as answers
use Rattle.scm_model.specs.declared.steps.Step.{Step}
use Rattle.book_rule.specs.declared.view.Opening.{Opening}
use Rattle.scm_book.specs.Passes.{Known, Made}
use Rattle.scm_book.specs.Processes.{HandsOut, KeepsAllBut, TakesInHand, line_behind}
use Rattle.child_runner.specs.Launches.{TakesAndTells}

-- the line lies in the room and in the words that were handed out
line_of : (line : List ℕ × List (List ℕ)) (path path' : TextWithRoom) (words : List (List ℕ)) → HandsOut line path path' words
    → (path'.units, words) ≡ line
line_of line path path' words h = ap (λ (p : TextWithRoom). (p.units, words)) h.lies ∙ ap (λ (ws : List (List ℕ)). (line.0, ws)) h.rest

pub takes_and_tells : (o : Opening) (tells : ℕ → Type 0) (k between k' : Known) (taken_at told_at process : ℕ) (path path' : TextWithRoom)
    (words : List (List ℕ)) (became : Step)
    → tells taken_at → tells told_at → TakesInHand o k taken_at process path path' words between
    → Made o between told_at became answers.Done k' → KeepsAllBut o process between k'
    → TakesAndTells o tells k process (path'.units, words) became k'
takes_and_tells o tells k between k' taken_at told_at process path path' words became first second takes told rest = record {
  between = between;
  taken_at = taken_at;
  told_at = told_at;
  taken_tells = first;
  told_tells = second;
  taken = takes.made;
  line_is = line_of (line_behind o takes.made.before) path path' words takes.line;
  told = told;
  rest = rest;
}
