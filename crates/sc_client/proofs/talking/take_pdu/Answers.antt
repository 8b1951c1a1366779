use Rattle.std.proofs.Common.{◌≡◌, ℕ, List, ◌++◌, length, ◌≤◌, true, false, ap, sym, ◌∙◌, subst, refl}
use Rattle.std.specs.Prelude.{Ok}
use Rattle.rpc_pdu.specs.declared.pdu.End.TheVariants.{Client}
use Rattle.rpc_pdu.specs.Pdu.{pdu_at, seen_pdu, seen_read, IsSettled}
use Rattle.sc_client.specs.Along.{Leads}
use Rattle.sc_client.specs.Talks.{pdu_move}
use Rattle.sc_client.proofs.Following.{took, same_total, misplaced, no_pdu, a_part}
use Rattle.sc_client.proofs.Turning.{moves_bound}
use Rattle.sc_client.proofs.talking.take_pdu.Goals as goal

-- what is settled of some bytes is so of the same bytes
settled_of : (a b : List ℕ) → a ≡ b → ((more : List ℕ) → pdu_at Client (a ++ more) ≡ pdu_at Client a) → (more : List ℕ)
    → pdu_at Client (b ++ more) ≡ pdu_at Client b
settled_of a b e h = let P : List ℕ → Type 0 = λ x. (more : List ℕ) → pdu_at Client (x ++ more) ≡ pdu_at Client x in subst P e h

within : (n : ℕ) (a b : List ℕ) → a ≡ b → n ≤ length a → n ≤ length b
within n a b e h = let P : List ℕ → Type 0 = λ x. n ≤ length x in subst P e h

pub returns-in-Short : goal.returns-in-Short
returns-in-Short c = (
  refl,
  refl,
  a_part c.args.command.now c.args.talk.now c.args.held.now _ c.requires.goes_on (ap (pdu_at Client) (sym c.as_slice.ensures)
      ∙ sym c.read_reply_pdu.ensures.value ∙ ap seen_read c.in-Short.is),
)

pub returns-in-Bad : goal.returns-in-Bad
returns-in-Bad c =
    let is = sym c.read_reply_pdu.ensures.value ∙ ap seen_read c.in-Bad.is in
    no_pdu c.args.command.now c.args.talk.now c.args.held.now _ c.requires.goes_on (ap (pdu_at Client) (sym c.as_slice.ensures) ∙ is)
    (settled_of c.as_slice.result.now c.args.held.now.bytes c.as_slice.ensures
    (c.read_reply_pdu.ensures.settled (subst IsSettled (sym is) tt)))

pub returns-then-not-branch : goal.returns-then-not-branch
returns-then-not-branch c =
    let is = sym c.read_reply_pdu.ensures.value ∙ ap seen_read c.in-Whole.is in
    misplaced c.args.command.now c.args.talk.now c.args.held.now (seen_pdu c.in-Whole.pdu) c.in-Whole.used c.requires.goes_on
    (ap (pdu_at Client) (sym c.as_slice.ensures) ∙ is)
    (settled_of c.as_slice.result.now c.args.held.now.bytes c.as_slice.ensures
    (c.read_reply_pdu.ensures.settled (subst IsSettled (sym is) tt)))
    c.in-Whole.ensures.used.0 (within c.in-Whole.used c.as_slice.result.now c.args.held.now.bytes c.as_slice.ensures
    c.in-Whole.ensures.used.1)
    (subst (λ b. Leads (pdu_move c.args.command.now c.args.talk.now (seen_pdu c.in-Whole.pdu)) c.take.new.self (Ok b)) c.if-not-branch.true
    c.in_ok-take-in-Whole.ensures)

pub returns : goal.returns
returns c =
    let is = sym c.read_reply_pdu.ensures.value ∙ ap seen_read c.in-Whole.is in
    let high = within c.in-Whole.used c.as_slice.result.now c.args.held.now.bytes c.as_slice.ensures c.in-Whole.ensures.used.1 in
    let moves = subst (λ b. Leads (pdu_move c.args.command.now c.args.talk.now (seen_pdu c.in-Whole.pdu)) c.take.new.self (Ok b))
    c.if-not-branch.false c.in_ok-take-in-Whole.ensures in (
      took c.args.command.now c.args.talk.now c.take.new.self c.args.held.now c.pass.new.self
          (seen_pdu c.in-Whole.pdu) c.in-Whole.used c.requires.goes_on (ap (pdu_at Client) (sym c.as_slice.ensures) ∙ is)
          (settled_of c.as_slice.result.now c.args.held.now.bytes c.as_slice.ensures
          (c.read_reply_pdu.ensures.settled (subst IsSettled (sym is) tt)))
          c.in-Whole.ensures.used.0 high moves c.in_ok-pass.ensures,
      same_total c.args.held.now c.pass.new.self c.in-Whole.used high c.in_ok-pass.ensures,
      moves_bound c.args.command.now c.args.talk.now (seen_pdu c.in-Whole.pdu) c.take.new.self moves,
    )
