use Rattle.std.proofs.Common.{List, Option, ◌∙◌, ap, sym, arith, take}
use Rattle.std.specs.Prelude.{option_copied}
use Rattle.std.proofs.lemmas.List.{take_all}
use Rattle.scm_model.specs.declared.flat.Service.{Service}
use Rattle.scm_tables.specs.Offering.{earlier}
use Rattle.scm_tables.specs.declared.process_rows.ProcessRow.{ProcessRow}
use Rattle.scm_tables.proofs.Offers.{first_of, first_of_more, first_of_none, offered}
use Rattle.scm_tables.proofs.hosting.first_offering.Goals as goal

pub loop-process-init : goal.loop-process-init
loop-process-init c = sym (first_of_none c.args.path.now c.args.rows.now.services)

pub loop-process-preserved : goal.loop-process-preserved
loop-process-preserved c =
    let all = c.args.processes.now in
    let i = c.loop-process.process-index in
    let path = c.args.path.now in
    let rows = c.args.rows.now.services in
    c.earlier-first.ensures
    ∙ ap (λ (o : Option Service). earlier o (option_copied c.first_offered.result)) c.loop-process.invariant
    ∙ ap (earlier (first_of (take i all) path rows)) c.first_offered.ensures
    ∙ first_of_more all i c.process-item.result path rows c.requires.services (omega arith) c.process-item.is

pub returns : goal.returns
returns c =
    let all = c.args.processes.now in
    c.loop-process.invariant
    ∙ ap (λ (ps : List ProcessRow). first_of ps c.args.path.now c.args.rows.now.services) (take_all c.loop-process.process-index all
    (omega arith))
    ∙ offered all c.args.path.now c.args.rows.now.services c.requires.rising c.requires.some
