-- How much text a step has: twice the units of its texts, the length of its lists of bytes, 8 for each word and each action, and 32 for
-- each
-- trigger.
use Rattle.std.specs.Prelude.{ℕ, ◌+◌, ◌*◌, List, [], ◌∷◌, length, Option, None, Some}
use Rattle.scm_model.specs.declared.calls.Request.{Request}
use Rattle.scm_model.specs.declared.calls.Request.TheVariants as request
use Rattle.scm_model.specs.declared.calls.Info.{Info}
use Rattle.scm_model.specs.declared.calls.Info.TheVariants as info
use Rattle.scm_model.specs.declared.calls.NewService.{NewService}
use Rattle.scm_model.specs.declared.flat.Action.{Action}
use Rattle.scm_model.specs.declared.calls.ChangeService.{ChangeService}
use Rattle.scm_model.specs.declared.steps.Step.{Step}
use Rattle.scm_model.specs.declared.steps.Step.TheVariants.{Call}

abbrev pub some_text : Option (List ℕ) → ℕ
some_text None = 0
some_text (Some text) = 2 * length text

abbrev pub some_bytes : Option (List ℕ) → ℕ
some_bytes None = 0
some_bytes (Some bytes) = length bytes

-- a word's text, and 8 for the word
abbrev pub text_of_words : List (List ℕ) → ℕ
text_of_words [] = 0
text_of_words (word ∷ words) = 2 * length word + 8 + text_of_words words

abbrev pub some_words : Option (List (List ℕ)) → ℕ
some_words None = 0
some_words (Some words) = text_of_words words

abbrev pub text_of_new : NewService → ℕ
text_of_new new =
    2 * length new.name + some_text new.display + 2 * length new.path + some_text new.group + some_bytes new.needs
    + some_text new.account

abbrev pub text_of_change : ChangeService → ℕ
text_of_change change =
    some_text change.path + some_text change.group + some_bytes change.needs + some_text change.account
    + some_text change.display

abbrev pub some_actions : Option (List Action) → ℕ
some_actions None = 0
some_actions (Some actions) = 8 * length actions

abbrev pub text_of_info : Info → ℕ
text_of_info (info.Description text) = some_text text
text_of_info (info.Failure reset command actions) = some_text command + some_actions actions
text_of_info (info.Triggers list) = 32 * length list
text_of_info (info.Delayed on) = 0
text_of_info (info.OnExit on) = 0
text_of_info (info.Other level) = 0
text_of_info (info.Nothing level) = 0

abbrev pub text_of_call : Request → ℕ
text_of_call (request.Change change) = text_of_change change
text_of_call (request.Create new) = text_of_new new
text_of_call (request.Change2 handle asked) = text_of_info asked
text_of_call (request.OpenManager database access) = some_text database
text_of_call (request.OpenService handle name access) = 2 * length name
text_of_call (request.SetSecurity handle parts bytes) = length bytes
text_of_call (request.Start handle words) = some_words words
text_of_call (request.DisplayName handle name size) = 2 * length name
text_of_call (request.KeyName handle name size) = 2 * length name
text_of_call asked = 0

abbrev pub text_of : Step → ℕ
text_of (Call caller asked append) = text_of_call asked
text_of step = 0
