-- How many bytes a code has.
use Rattle.std.specs.Prelude.{ℕ, ◌+◌, ◌*◌, List, length, Option, None, Some}
use Rattle.std.specs.List.{sum_by}
use Rattle.scm_model.specs.declared.flat.Action.{Action}
use Rattle.scm_model.specs.declared.calls.ChangeService.{ChangeService}
use Rattle.scm_model.specs.declared.calls.Info.{Info}
use Rattle.scm_model.specs.declared.calls.Info.TheVariants as info
use Rattle.scm_model.specs.declared.calls.NewService.{NewService}
use Rattle.scm_model.specs.declared.calls.Request.{Request}
use Rattle.scm_model.specs.declared.calls.Request.TheVariants as request
use Rattle.scm_model.specs.declared.calls.TriggerIn.{TriggerIn}
use Rattle.scm_model.specs.declared.steps.Step.{Step}
use Rattle.scm_model.specs.declared.steps.Step.TheVariants as step

abbrev pub some_size : {A : Type 0} → (A → ℕ) → Option A → ℕ
some_size size None = 1
some_size size (Some x) = 1 + size x

abbrev pub text_size : List ℕ → ℕ
text_size units = 4 + 2 * length units

abbrev pub bytes_size : List ℕ → ℕ
bytes_size bytes = 4 + length bytes

abbrev pub words_size : List (List ℕ) → ℕ
words_size words = 4 + sum_by text_size words

abbrev pub actions_size : List Action → ℕ
actions_size actions = 4 + 8 * length actions

abbrev pub trigger_size : TriggerIn → ℕ
trigger_size trigger = 12 + some_size (λ _. 16) trigger.subtype

abbrev pub triggers_size : List TriggerIn → ℕ
triggers_size triggers = 4 + sum_by trigger_size triggers

abbrev pub info_size : Info → ℕ
info_size (info.Description asked) = 1 + some_size text_size asked
info_size (info.Failure reset command actions) = 5 + some_size text_size command + some_size actions_size actions
info_size (info.Delayed on) = 2
info_size (info.OnExit on) = 2
info_size (info.Triggers triggers) = 1 + triggers_size triggers
info_size (info.Other level) = 5
info_size (info.Nothing level) = 5

-- what a creation and a change have in common
abbrev pub common_size : Option (List ℕ) → Option ℕ → Option (List ℕ) → Option (List ℕ) → ℕ
common_size group tag needs account =
    some_size text_size group + some_size (λ _. 4) tag + some_size bytes_size needs + some_size text_size account

abbrev pub change_size : ChangeService → ℕ
change_size c = 20 + some_size text_size c.path + common_size c.group c.tag c.needs c.account + some_size text_size c.display

abbrev pub create_size : NewService → ℕ
create_size c =
    24 + text_size c.name + some_size text_size c.display + text_size c.path + common_size c.group c.tag c.needs c.account

abbrev pub fields_size : Request → ℕ
fields_size (request.Control handle control) = 12
fields_size (request.QuerySecurity handle parts size) = 16
fields_size (request.SetSecurity handle parts bytes) = 12 + bytes_size bytes
fields_size (request.SetStatus handle asked) = 36
fields_size (request.Change asked) = change_size asked
fields_size (request.Create asked) = create_size asked
fields_size (request.EnumDependents handle states size) = 16
fields_size (request.EnumServices handle kinds states size resume) = 20 + some_size (λ _. 4) resume
fields_size (request.OpenManager database access) = some_size text_size database + 4
fields_size (request.OpenService handle name access) = 12 + text_size name
fields_size (request.QueryConfig handle size) = 12
fields_size (request.QueryLock handle size) = 12
fields_size (request.Start handle words) = 8 + some_size words_size words
fields_size (request.DisplayName handle name size) = 12 + text_size name
fields_size (request.KeyName handle name size) = 12 + text_size name
fields_size (request.Change2 handle asked) = 8 + info_size asked
fields_size (request.QueryConfig2 handle level size) = 16
fields_size (request.QueryStatusEx handle level size) = 16
fields_size (request.Notify handle mask) = 12
fields_size _ = 8

-- without the moment
abbrev pub step_size : Step → ℕ
step_size (step.Joined by) = 2
step_size (step.Call caller asked append) = 12 + fields_size asked
step_size (step.EndStart caller plan) = 17
step_size step.LaunchTaken = 1
step_size (step.Launched process pid) = 13
step_size (step.LaunchFailed process code) = 13
step_size (step.Report process service reported) = 45
step_size step.Tick = 1
step_size (step.Raised caller id) = 25
step_size _ = 9

-- with the moment
abbrev pub code_size : Step → ℕ
code_size step = 8 + step_size step
