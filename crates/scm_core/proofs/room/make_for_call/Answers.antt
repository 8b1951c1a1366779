use Rattle.std.proofs.Common.{ap}
use Rattle.std.specs.Prelude.{List, ℕ, Option, Some}
use Rattle.scm_model.specs.declared.calls.Reply.{Reply}
use Rattle.scm_model.specs.declared.steps.Change.{Change}
use Rattle.scm_core.specs.Room.{nothing_made, prepared_for}
use Rattle.scm_core.specs.declared.room.Prepared.{Prepared}
use Rattle.scm_core.proofs.Making.{made_right}
use Rattle.scm_core.proofs.room.make_for_call.Goals as goal

abbrev replying : Reply → Prepared
replying told = record nothing_made { reply = Some told }

pub returns-in-Create : goal.returns-in-Create
returns-in-Create c = rw (c.in-Create.is, ← c.deref.ensures) c.make_for_create.ensures

pub returns-in-Delete : goal.returns-in-Delete
returns-in-Delete c =
    made_right (λ (removal : Option Change). record nothing_made { change = removal }) c.removed.result c.made_of_removal.result _ _
    c.made_of_removal.ensures c.removed.ensures
    (ap (prepared_for c.args.tables.now.limits c.args.tables.now.flat c.args.caller) c.in-Delete.is)

pub returns-in-QueryLock : goal.returns-in-QueryLock
returns-in-QueryLock c =
    made_right (λ (owner : List ℕ). record nothing_made { name = Some owner }) c.lock_owner.result c.made_of_name.result _ _
    c.made_of_name.ensures c.lock_owner.ensures
    (ap (prepared_for c.args.tables.now.limits c.args.tables.now.flat c.args.caller) c.in-QueryLock.is)

pub returns-in-Start : goal.returns-in-Start
returns-in-Start c =
    made_right (λ (list : List ℕ). record nothing_made { entries = Some list }) c.start_entries.result c.made_of_entries.result _ _
    c.made_of_entries.ensures c.start_entries.ensures
    (ap (prepared_for c.args.tables.now.limits c.args.tables.now.flat c.args.caller) c.in-Start.is)

pub returns-in-QueryConfig : goal.returns-in-QueryConfig
returns-in-QueryConfig c =
    made_right replying c.query_config.result c.made_of_reply.result _ _
    c.made_of_reply.ensures c.query_config.ensures
    (ap (prepared_for c.args.tables.now.limits c.args.tables.now.flat c.args.caller) c.in-QueryConfig.is)

pub returns-in-EnumDependents : goal.returns-in-EnumDependents
returns-in-EnumDependents c =
    made_right replying c.enum_dependents.result c.made_of_reply-in-EnumDependents.result _ _
    c.made_of_reply-in-EnumDependents.ensures c.enum_dependents.ensures
    (ap (prepared_for c.args.tables.now.limits c.args.tables.now.flat c.args.caller) c.in-EnumDependents.is)

pub returns-in-EnumServices : goal.returns-in-EnumServices
returns-in-EnumServices c =
    made_right replying c.enum_services.result c.made_of_reply-in-EnumServices.result _ _
    c.made_of_reply-in-EnumServices.ensures c.enum_services.ensures
    (ap (prepared_for c.args.tables.now.limits c.args.tables.now.flat c.args.caller) c.in-EnumServices.is)

pub returns-in-QueryConfig2 : goal.returns-in-QueryConfig2
returns-in-QueryConfig2 c =
    made_right replying c.query_config2.result c.made_of_reply-in-QueryConfig2.result _ _
    c.made_of_reply-in-QueryConfig2.ensures c.query_config2.ensures
    (ap (prepared_for c.args.tables.now.limits c.args.tables.now.flat c.args.caller) c.in-QueryConfig2.is)

pub returns-in-QueryStatusEx : goal.returns-in-QueryStatusEx
returns-in-QueryStatusEx c =
    made_right replying c.query_status_ex.result c.made_of_reply-in-QueryStatusEx.result _ _
    c.made_of_reply-in-QueryStatusEx.ensures c.query_status_ex.ensures
    (ap (prepared_for c.args.tables.now.limits c.args.tables.now.flat c.args.caller) c.in-QueryStatusEx.is)

pub returns-in-DisplayName : goal.returns-in-DisplayName
returns-in-DisplayName c =
    made_right replying c.display_name.result c.made_of_reply-in-DisplayName.result _ _
    c.made_of_reply-in-DisplayName.ensures c.display_name.ensures
    (ap (prepared_for c.args.tables.now.limits c.args.tables.now.flat c.args.caller) c.in-DisplayName.is)

pub returns-in-KeyName : goal.returns-in-KeyName
returns-in-KeyName c =
    made_right replying c.key_name.result c.made_of_reply-in-KeyName.result _ _
    c.made_of_reply-in-KeyName.ensures c.key_name.ensures
    (ap (prepared_for c.args.tables.now.limits c.args.tables.now.flat c.args.caller) c.in-KeyName.is)

pub returns-in-QuerySecurity : goal.returns-in-QuerySecurity
returns-in-QuerySecurity c =
    made_right replying c.query_security.result c.made_of_reply-in-QuerySecurity.result _ _
    c.made_of_reply-in-QuerySecurity.ensures c.query_security.ensures
    (ap (prepared_for c.args.tables.now.limits c.args.tables.now.flat c.args.caller) c.in-QuerySecurity.is)
