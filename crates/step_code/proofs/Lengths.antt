-- How long a code is, and that it is little longer than the step's text.
use Rattle.std.proofs.Common.{◌≡◌, ℕ, ◌+◌, ◌*◌, ◌≤◌, true, false, List, [], ◌∷◌, ◌++◌, length, sum_by, Option, None, Some, refl, ap, ◌∙◌}
use Rattle.std.proofs.Common.{arith, length-append}
use Rattle.std.specs.List.{flat_map, AllByRecursion}
use Rattle.std.proofs.lemmas.List.Concat.{flat_map-cons}
use Rattle.std.proofs.lemmas.List.Elements.{recursion_from_All}
use Rattle.std.proofs.lemmas.List.Sums.{sum_by-cons}
use Rattle.scm_model.specs.Entries.{Entry}
use Rattle.scm_model.specs.Texts.{some_text, some_bytes, some_words, some_actions, text_of_info, text_of_change, text_of_new}
use Rattle.scm_model.specs.Texts.{text_of_call, text_of}
use Rattle.scm_model.specs.declared.flat.Action.{Action}
use Rattle.scm_model.specs.declared.calls.ChangeService.{ChangeService}
use Rattle.scm_model.specs.declared.calls.Info.{Info}
use Rattle.scm_model.specs.declared.calls.Info.TheVariants as info
use Rattle.scm_model.specs.declared.calls.NewService.{NewService}
use Rattle.scm_model.specs.declared.calls.Request.{Request}
use Rattle.scm_model.specs.declared.calls.Request.TheVariants as request
use Rattle.scm_model.specs.declared.calls.TriggerIn.{TriggerIn}
use Rattle.scm_model.specs.declared.steps.Step.{Step}
use Rattle.scm_model.specs.declared.steps.Step.TheVariants as steps
use Rattle.step_code.proofs.Words.{each_within}
use Rattle.step_code.specs.Codes.{n2, n4, some, list, text, byte_list, subtype, joined, action, trigger, info_code}
use Rattle.step_code.specs.Codes.{common_code, change_code, create_code, fields, appended, step_code, code_of}
use Rattle.step_code.specs.Fits.{IsAbsentOr, IsSubtype, IsTrigger, IsInfo, IsRequest, HasCode, IsEntry}
use Rattle.step_code.specs.Sizes.{some_size, text_size, bytes_size, words_size, actions_size, trigger_size, info_size}
use Rattle.step_code.specs.Sizes.{common_size, change_size, create_size, fields_size, step_size, code_size}

-- ## A bound by the text

some_within : (text : Option (List ℕ)) → some_size text_size text ≤ 5 + some_text text
some_within None = omega arith
some_within (Some text) = omega arith

bytes_within : (bytes : Option (List ℕ)) → some_size bytes_size bytes ≤ 5 + some_bytes bytes
bytes_within None = omega arith
bytes_within (Some bytes) = omega arith

number_within : (n : Option ℕ) → some_size (λ _. 4) n ≤ 5
number_within None = omega arith
number_within (Some n) = omega arith

words_within : (words : Option (List (List ℕ))) → some_size words_size words ≤ 5 + some_words words
words_within None = omega arith
words_within (Some words) = omega (arith, each_within words)

actions_within : (actions : Option (List Action)) → some_size actions_size actions ≤ 5 + some_actions actions
actions_within None = omega arith
actions_within (Some actions) = omega arith

id_within : (id : Option (List ℕ)) → some_size (λ (_ : List ℕ). 16) id ≤ 17
id_within None = omega arith
id_within (Some id) = omega arith

triggers_within : (triggers : List TriggerIn) → sum_by trigger_size triggers ≤ 32 * length triggers
triggers_within [] = omega arith
triggers_within (t ∷ ts) = omega (arith, sum_by-cons trigger_size t ts, id_within t.subtype, triggers_within ts)

info_within : (asked : Info) → info_size asked ≤ 15 + text_of_info asked
info_within (info.Description asked) = omega (arith, some_within asked)
info_within (info.Failure reset command actions) = omega (arith, some_within command, actions_within actions)
info_within (info.Delayed on) = omega arith
info_within (info.OnExit on) = omega arith
info_within (info.Triggers triggers) = omega (arith, triggers_within triggers)
info_within (info.Other level) = omega arith
info_within (info.Nothing level) = omega arith

change_within : (c : ChangeService) → change_size c ≤ 50 + text_of_change c
change_within c = omega (
  arith,
  some_within c.path,
  some_within c.group,
  number_within c.tag,
  bytes_within c.needs,
  some_within c.account,
  some_within c.display,
)

create_within : (c : NewService) → create_size c ≤ 57 + text_of_new c
create_within c = omega (
  arith,
  some_within c.display,
  some_within c.group,
  number_within c.tag,
  bytes_within c.needs,
  some_within c.account,
)

fields_within : (r : Request) → fields_size r ≤ 60 + text_of_call r
fields_within (request.SetSecurity handle parts bytes) = omega arith
fields_within (request.Change asked) = omega (arith, change_within asked)
fields_within (request.Create asked) = omega (arith, create_within asked)
fields_within (request.EnumServices handle kinds states size resume) = omega (arith, number_within resume)
fields_within (request.OpenManager database access) = omega (arith, some_within database)
fields_within (request.Start handle words) = omega (arith, words_within words)
fields_within (request.Change2 handle asked) = omega (arith, info_within asked)
fields_within _ = omega arith

pub code_within : (step : Step) → code_size step ≤ 128 + text_of step
code_within (steps.Call caller asked append) = omega (arith, fields_within asked)
code_within _ = omega arith

-- ## The length of a code

length_some : {A : Type 0} (encode : A → List ℕ) (size : A → ℕ) → ((x : A) → length (encode x) ≡ size x) → (o : Option A)
    → length (some encode o) ≡ some_size size o
length_some encode size each None = refl
length_some encode size each (Some x) = omega (arith, each x)

length_units : (us : List ℕ) → length (flat_map n2 us) ≡ 2 * length us
length_units [] = refl
length_units (u ∷ us) = ap (λ (t : List ℕ). length t) (flat_map-cons n2 u us) ∙ omega (arith, length_units us)

length_text : (us : List ℕ) → length (text us) ≡ text_size us
length_text us = omega (arith, length_units us)

length_bytes : (bytes : List ℕ) → length (byte_list bytes) ≡ bytes_size bytes
length_bytes bytes = omega arith

length_n4 : (n : ℕ) → length (n4 n) ≡ 4
length_n4 n = omega arith

length_some_text : (o : Option (List ℕ)) → length (some text o) ≡ some_size text_size o
length_some_text = length_some text text_size length_text

length_some_bytes : (o : Option (List ℕ)) → length (some byte_list o) ≡ some_size bytes_size o
length_some_bytes = length_some byte_list bytes_size length_bytes

length_some_number : (o : Option ℕ) → length (some n4 o) ≡ some_size (λ _. 4) o
length_some_number = length_some n4 (λ _. 4) length_n4

length_each_word : (words : List (List ℕ)) → length (flat_map text words) ≡ sum_by text_size words
length_each_word [] = refl
length_each_word (w ∷ ws) = ap (λ (t : List ℕ). length t) (flat_map-cons text w ws) ∙ omega (
  arith,
  length-append (text w) (flat_map text ws),
  length_text w,
  length_each_word ws,
  sum_by-cons text_size w ws,
)

length_words : (words : List (List ℕ)) → length (list text words) ≡ words_size words
length_words words = omega (arith, length_each_word words)

length_each_action : (actions : List Action) → length (flat_map action actions) ≡ 8 * length actions
length_each_action [] = refl
length_each_action (a ∷ others) =
    ap (λ (t : List ℕ). length t) (flat_map-cons action a others) ∙ omega (arith, length_each_action others)

length_actions : (actions : List Action) → length (list action actions) ≡ actions_size actions
length_actions actions = omega (arith, length_each_action actions)

length_id : (id : Option (List ℕ)) → IsAbsentOr IsSubtype id → length (some subtype id) ≡ some_size (λ (_ : List ℕ). 16) id
length_id None fits = refl
length_id (Some id) fits = omega (arith, fits)

length_trigger : (t : TriggerIn) → IsTrigger t → length (trigger t) ≡ trigger_size t
length_trigger t fits =
    let id = length_id t.subtype fits.subtype in
    omega (arith, id, length-append (some subtype t.subtype) (joined (n4 t.items ∷ [])))

length_each_trigger : (triggers : List TriggerIn) → AllByRecursion IsTrigger triggers
    → length (flat_map trigger triggers) ≡ sum_by trigger_size triggers
length_each_trigger [] fits = refl
length_each_trigger (t ∷ ts) fits = ap (λ (b : List ℕ). length b) (flat_map-cons trigger t ts) ∙ omega (
  arith,
  length-append (trigger t) (flat_map trigger ts),
  length_trigger t fits.0,
  length_each_trigger ts fits.1,
  sum_by-cons trigger_size t ts,
)

length_info : (asked : Info) → IsInfo asked → length (info_code asked) ≡ info_size asked
length_info (info.Description asked) fits = omega (arith, length_some_text asked)
length_info (info.Failure reset command actions) fits = omega (
  arith,
  length-append (some text command) (joined (some (list action) actions ∷ [])),
  length-append (some (list action) actions) [],
  length_some_text command,
  length_some (list action) actions_size length_actions actions,
)
length_info (info.Delayed true) fits = refl
length_info (info.Delayed false) fits = refl
length_info (info.OnExit true) fits = refl
length_info (info.OnExit false) fits = refl
length_info (info.Triggers triggers) fits = omega (arith, length_each_trigger triggers (recursion_from_All IsTrigger triggers fits.1))
length_info (info.Other level) fits = omega arith
length_info (info.Nothing level) fits = omega arith

length_common : (group : Option (List ℕ)) (tag : Option ℕ) (needs account : Option (List ℕ))
    → length (common_code group tag needs account) ≡ common_size group tag needs account
length_common group tag needs account = omega (
  arith,
  length-append (some text group) (joined (some n4 tag ∷ some byte_list needs ∷ some text account ∷ [])),
  length-append (some n4 tag) (joined (some byte_list needs ∷ some text account ∷ [])),
  length-append (some byte_list needs) (joined (some text account ∷ [])),
  length-append (some text account) [],
  length_some_text group,
  length_some_number tag,
  length_some_bytes needs,
  length_some_text account,
)

length_change : (c : ChangeService) → length (change_code c) ≡ change_size c
length_change c =
    let common = common_code c.group c.tag c.needs c.account in
    omega (
      arith,
      length-append (some text c.path) (joined (common ∷ some text c.display ∷ [])),
      length-append common (joined (some text c.display ∷ [])),
      length-append (some text c.display) [],
      length_some_text c.path,
      length_common c.group c.tag c.needs c.account,
      length_some_text c.display,
    )

length_create : (c : NewService) → length (create_code c) ≡ create_size c
length_create c =
    let common = common_code c.group c.tag c.needs c.account in
    let end = joined (text c.path ∷ common ∷ []) in
    let numbers = n4 c.access ++ (n4 c.kind ++ (n4 c.start ++ (n4 c.error ++ end))) in
    omega (
      arith,
      length-append (text c.name) (some text c.display ++ numbers),
      length-append (some text c.display) numbers,
      length-append (text c.path) (joined (common ∷ [])),
      length-append common [],
      length_text c.name,
      length_some_text c.display,
      length_text c.path,
      length_common c.group c.tag c.needs c.account,
    )

length_named : (name : List ℕ) (number : ℕ) → length (text name ++ joined (n4 number ∷ [])) ≡ text_size name + 4
length_named name number = omega (arith, length-append (text name) (joined (n4 number ∷ [])), length_text name)

length_fields : (r : Request) → IsRequest r → length (fields r) ≡ fields_size r
length_fields (request.SetSecurity handle parts bytes) fits = omega (arith, length-append (byte_list bytes) [], length_bytes bytes)
length_fields (request.Change asked) fits = length_change asked
length_fields (request.Create asked) fits = length_create asked
length_fields (request.EnumServices handle kinds states size resume) fits =
    omega (arith, length-append (some n4 resume) [], length_some_number resume)
length_fields (request.OpenManager database access) fits =
    omega (arith, length-append (some text database) (joined (n4 access ∷ [])), length_some_text database)
length_fields (request.OpenService handle name n) fits = omega (arith, length_named name n)
length_fields (request.DisplayName handle name n) fits = omega (arith, length_named name n)
length_fields (request.KeyName handle name n) fits = omega (arith, length_named name n)
length_fields (request.Start handle words) fits =
    omega (arith, length-append (some (list text) words) [], length_some (list text) words_size length_words words)
length_fields (request.Change2 handle asked) fits = omega (arith, length-append (info_code asked) [], length_info asked fits.1)
length_fields (request.Close handle) fits = omega arith
length_fields (request.Control handle n) fits = omega arith
length_fields (request.Delete handle) fits = omega arith
length_fields (request.Lock handle) fits = omega arith
length_fields (request.QuerySecurity handle n m) fits = omega arith
length_fields (request.QueryStatus handle) fits = omega arith
length_fields (request.SetStatus handle asked) fits = omega arith
length_fields (request.Unlock handle) fits = omega arith
length_fields (request.EnumDependents handle n m) fits = omega arith
length_fields (request.QueryConfig handle n) fits = omega arith
length_fields (request.QueryLock handle n) fits = omega arith
length_fields (request.QueryConfig2 handle n m) fits = omega arith
length_fields (request.QueryStatusEx handle n m) fits = omega arith
length_fields (request.Notify handle n) fits = omega arith
length_fields (request.GetNotify handle) fits = omega arith
length_fields (request.CloseNotify handle) fits = omega arith

length_step : (step : Step) → HasCode step → length (step_code step) ≡ step_size step
length_step (steps.Joined by) fits = omega arith
length_step (steps.Call caller asked append) fits =
    omega (arith, length-append (fields asked) (joined ((appended append ∷ []) ∷ [])), length_fields asked fits.1)
length_step (steps.EndStart caller plan) fits = omega arith
length_step steps.LaunchTaken fits = omega arith
length_step (steps.Launched process pid) fits = omega arith
length_step (steps.LaunchFailed process code) fits = omega arith
length_step (steps.Report process service reported) fits = omega arith
length_step (steps.Ended process) fits = omega arith
length_step (steps.ControlTaken process) fits = omega arith
length_step steps.Tick fits = omega arith
length_step (steps.Raised caller id) fits = omega (arith, fits.1, length-append id [])
length_step (steps.Gone caller) fits = omega arith
length_step (steps.NoMemory caller) fits = omega arith

pub length_code : (entry : Entry) → IsEntry entry → length (code_of entry) ≡ code_size entry.1
length_code entry fits = omega (arith, length_step entry.1 fits.1)
