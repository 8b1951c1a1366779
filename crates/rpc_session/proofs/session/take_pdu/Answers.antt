use Rattle.std.proofs.Common.{arith, ◌≡◌, ℕ, List, ◌++◌, refl, sym, ap, ◌∙◌, subst, Ok, Err, Some, Option, ◌≤◌, ◌+◌, drop, length}
use Rattle.std.proofs.lemmas.List.{length-drop}
use Rattle.rpc_session.specs.declared.state.Incoming.{Incoming}
use Rattle.rpc_session.specs.declared.session.SessionFault.TheVariants as faults
use Rattle.rpc_pdu.specs.declared.pdu.End.TheVariants.{Server}
use Rattle.rpc_pdu.specs.declared.pdu.PduRead.TheVariants.{Short, Bad}
use Rattle.rpc_pdu.specs.Pdu.{pdu_at, seen_read, seen_pdu, IsSettled}
use Rattle.rpc_session.specs.Items.{StepComes, TellsEnd, BadPdu, fault_by, TellsAgain, IsStuck, ahead_by}
use Rattle.rpc_session.proofs.Telling.{taken, refused, open_at, bad_at, front_is, none_again, some_again, taken_again, refused_again}
use Rattle.rpc_session.proofs.Telling.{refused_stuck}
use Rattle.rpc_session.proofs.Joining.{further_on, step_joins}
use Rattle.rpc_session.proofs.session.take_pdu.Goals as goal

-- what is settled of the bytes that are read is settled of the bytes that are held
settled : (bytes rest : List ℕ) → bytes ≡ rest → (IsSettled (pdu_at Server bytes) → (more : List ℕ)
    → pdu_at Server (bytes ++ more) ≡ pdu_at Server bytes) → IsSettled (pdu_at Server rest) → (more : List ℕ)
    → pdu_at Server (rest ++ more) ≡ pdu_at Server rest
settled bytes rest e f s = subst (λ b. IsSettled (pdu_at Server b) → (more : List ℕ) → pdu_at Server (b ++ more) ≡ pdu_at Server b) e f s

pub returns-in-Short-clause-comes : goal.returns-in-Short-clause-comes
returns-in-Short-clause-comes c = (
  open_at c.args.state.now (c.args.stream.now.place + c.args.ahead.now) (drop c.args.ahead.now c.args.stream.now.rest) c.in-Short.field-0
      (ap (pdu_at Server) (sym c.ahead.ensures.rest) ∙ sym c.read_pdu.ensures.value ∙ ap seen_read c.in-Short.is),
  λ more. refl,
)

pub returns-in-Bad-clause-comes : goal.returns-in-Bad-clause-comes
returns-in-Bad-clause-comes c =
    let rest = drop c.args.ahead.now c.args.stream.now.rest in
    let is = ap (pdu_at Server) (sym c.ahead.ensures.rest) ∙ sym c.read_pdu.ensures.value ∙ ap seen_read c.in-Bad.is in
    let stays = settled c.ahead.result.now rest c.ahead.ensures.rest c.read_pdu.ensures.settled (subst IsSettled (sym is) tt) in (
      subst (λ p. TellsEnd (ahead_by c.args.state.now c.args.stream.now c.args.ahead.now) (BadPdu p c.in-Bad.kind)) (sym c.place.ensures)
          (bad_at c.args.state.now (c.args.stream.now.place + c.args.ahead.now) rest c.in-Bad.kind is stays),
      λ more. refl,
    )

pub returns-in-Ok-clause-comes : goal.returns-in-Ok-clause-comes
returns-in-Ok-clause-comes c =
    let rest = drop c.args.ahead.now c.args.stream.now.rest in
    let is = ap (pdu_at Server) (sym c.ahead.ensures.rest) ∙ sym c.read_pdu.ensures.value ∙ ap seen_read c.in-Whole.is in
    let stays = settled c.ahead.result.now rest c.ahead.ensures.rest c.read_pdu.ensures.settled (subst IsSettled (sym is) tt) in
    let used = c.in-Whole.ensures.used in
    let high = subst (λ b. c.in-Whole.used ≤ length b) c.ahead.ensures.rest used.1 in
    subst (λ h. StepComes (ahead_by c.args.state.now c.args.stream.now c.args.ahead.now) (record { state = c.take.new.self; held = h })
    (Ok (Some c.in-Ok.item))) (further_on c.args.stream.now c.args.ahead.now c.in-Whole.used)
    (taken (c.args.stream.now.place + c.args.ahead.now) rest (seen_pdu c.in-Whole.pdu) c.in-Whole.used is stays used.0 high c.args.state.now
    c.take.new.self c.in-Ok.item c.in-Ok.ensures.moved)

pub returns-in-Err-clause-comes : goal.returns-in-Err-clause-comes
returns-in-Err-clause-comes c =
    let rest = drop c.args.ahead.now c.args.stream.now.rest in
    let is = ap (pdu_at Server) (sym c.ahead.ensures.rest) ∙ sym c.read_pdu.ensures.value ∙ ap seen_read c.in-Whole.is in
    let stays = settled c.ahead.result.now rest c.ahead.ensures.rest c.read_pdu.ensures.settled (subst IsSettled (sym is) tt) in
    let used = c.in-Whole.ensures.used in
    let high = subst (λ b. c.in-Whole.used ≤ length b) c.ahead.ensures.rest used.1 in
    subst (λ f. StepComes (ahead_by c.args.state.now c.args.stream.now c.args.ahead.now)
    (ahead_by c.take.new.self c.args.stream.now c.args.ahead.now) (Err f))
    (sym (c.fault_of.ensures ∙ ap (λ p. fault_by p c.in-Err.refusal) c.place-in-Err.ensures))
    (refused (c.args.stream.now.place + c.args.ahead.now) rest (seen_pdu c.in-Whole.pdu) c.in-Whole.used is stays used.0 high
    c.args.state.now c.take.new.self c.in-Err.refusal c.in-Err.ensures.moved)

pub returns-in-Short-clause-again : goal.returns-in-Short-clause-again
returns-in-Short-clause-again c =
    let is = ap (pdu_at Server) (sym c.ahead.ensures.rest) ∙ sym c.read_pdu.ensures.value ∙ ap seen_read c.in-Short.is in
    none_again _ _ _ (front_is c.args.state.now (c.args.stream.now.place + c.args.ahead.now) (drop c.args.ahead.now c.args.stream.now.rest)
    (Short c.in-Short.field-0) is)

pub returns-in-Bad-clause-stuck : goal.returns-in-Bad-clause-stuck
returns-in-Bad-clause-stuck c =
    let is = ap (pdu_at Server) (sym c.ahead.ensures.rest) ∙ sym c.read_pdu.ensures.value ∙ ap seen_read c.in-Bad.is in
    front_is c.args.state.now (c.args.stream.now.place + c.args.ahead.now) (drop c.args.ahead.now c.args.stream.now.rest)
    (Bad c.in-Bad.kind) is
    ∙ ap (λ p. Some (faults.BadPdu p c.in-Bad.kind)) (sym c.place.ensures)

pub returns-in-Bad-clause-again : goal.returns-in-Bad-clause-again
returns-in-Bad-clause-again c =
    let is = ap (pdu_at Server) (sym c.ahead.ensures.rest) ∙ sym c.read_pdu.ensures.value ∙ ap seen_read c.in-Bad.is in
    some_again (Option (Option Incoming)) _ _ (faults.BadPdu c.place.result c.in-Bad.kind)
    (front_is c.args.state.now (c.args.stream.now.place + c.args.ahead.now) (drop c.args.ahead.now c.args.stream.now.rest)
    (Bad c.in-Bad.kind) is
    ∙ ap (λ p. Some (faults.BadPdu p c.in-Bad.kind)) (sym c.place.ensures)) refl

pub returns-in-Ok-clause-again : goal.returns-in-Ok-clause-again
returns-in-Ok-clause-again c =
    let is = ap (pdu_at Server) (sym c.ahead.ensures.rest) ∙ sym c.read_pdu.ensures.value ∙ ap seen_read c.in-Whole.is in
    taken_again (c.args.stream.now.place + c.args.ahead.now) (drop c.args.ahead.now c.args.stream.now.rest)
    (seen_pdu c.in-Whole.pdu) c.in-Whole.used is c.args.state.now c.take.new.self _ c.in-Ok.item c.in-Ok.ensures.moved

pub returns-in-Err-clause-stuck : goal.returns-in-Err-clause-stuck
returns-in-Err-clause-stuck c =
    let is = ap (pdu_at Server) (sym c.ahead.ensures.rest) ∙ sym c.read_pdu.ensures.value ∙ ap seen_read c.in-Whole.is in
    subst (IsStuck (ahead_by c.take.new.self c.args.stream.now c.args.ahead.now))
    (sym (c.fault_of.ensures ∙ ap (λ p. fault_by p c.in-Err.refusal) c.place-in-Err.ensures))
    (refused_stuck (c.args.stream.now.place + c.args.ahead.now) (drop c.args.ahead.now c.args.stream.now.rest)
    (seen_pdu c.in-Whole.pdu) c.in-Whole.used is c.args.state.now c.take.new.self c.in-Err.refusal c.in-Err.ensures.moved)

pub returns-in-Err-clause-again : goal.returns-in-Err-clause-again
returns-in-Err-clause-again c =
    let is = ap (pdu_at Server) (sym c.ahead.ensures.rest) ∙ sym c.read_pdu.ensures.value ∙ ap seen_read c.in-Whole.is in
    subst (λ f. TellsAgain {A = Option (Option Incoming)} (ahead_by c.args.state.now c.args.stream.now c.args.ahead.now)
    (ahead_by c.take.new.self c.args.stream.now c.args.ahead.now) (Err f))
    (sym (c.fault_of.ensures ∙ ap (λ p. fault_by p c.in-Err.refusal) c.place-in-Err.ensures))
    (refused_again (c.args.stream.now.place + c.args.ahead.now) (drop c.args.ahead.now c.args.stream.now.rest)
    (seen_pdu c.in-Whole.pdu) c.in-Whole.used is c.args.state.now c.take.new.self
    (Option (Option Incoming)) c.in-Err.refusal c.in-Err.ensures.moved)

pub overflow_add-ahead : goal.overflow_add-ahead
overflow_add-ahead c =
    let used = c.in-Whole.ensures.used in
    omega (
      arith,
      used.1,
      ap length c.ahead.ensures.rest,
      length-drop c.args.ahead.now c.args.stream.now.rest,
      c.ahead.ensures.bound,
      c.requires,
    )

pub returns-in-Ok-clause-joins : goal.returns-in-Ok-clause-joins
returns-in-Ok-clause-joins c = step_joins c.args.state.now c.take.new.self c.in-Ok.item (seen_pdu c.in-Whole.pdu) c.in-Ok.ensures.moved
