use Rattle.std.proofs.Common.{ℕ, ◌≡◌, ◌≤◌, ◌++◌, ◌∙◌, List, length, ap, arith}
use Rattle.scm_model.specs.declared.calls.Reply.TheVariants.{Code}
use Rattle.scm_bodies.specs.Replies.{reply_bytes as body_of}
use Rattle.scm_bodies.proofs.Bounds.{fits}
use Rattle.conn_desk.proofs.serving.raised.Goals as goal

pub returns-clause-ok : goal.returns-clause-ok
returns-clause-ok g c =
    let code = c.in_ok-code.code in
    let is : c.written_code.result.items ≡ body_of (Code code) = c.written_code.ensures
    ∙ ap (λ (held : List ℕ). held ++ body_of (Code code)) c.in_ok-out.ensures.ok.0 in
    let few : length (body_of (Code code)) ≤ 4 = fits (Code code) 0 tt in
    record {
      reply = Code code;
      answered = c.in_ok-code.ensures.answered;
      written = is;
      small = omega (arith, ap length is, few);
    }
