-- A request that was written is read again.
use Rattle.std.proofs.Common.{◌≡◌, ℕ, ◌<◌, ◌^◌, List, [], ◌∷◌, ◌++◌, Option, Some, refl, ap, arith}
use Rattle.scm_model.specs.declared.flat.Action.{Action}
use Rattle.scm_model.specs.declared.flat.Status.{Status}
use Rattle.scm_model.specs.declared.calls.ChangeService.{ChangeService}
use Rattle.scm_model.specs.declared.calls.Info.{Info}
use Rattle.scm_model.specs.declared.calls.Info.TheVariants as info
use Rattle.scm_model.specs.declared.calls.NewService.{NewService}
use Rattle.scm_model.specs.declared.calls.Request.{Request}
use Rattle.scm_model.specs.declared.calls.Request.TheVariants as request
use Rattle.scm_model.specs.declared.codes.TheConstants.{R_CLOSE_NOTIFY_HANDLE, R_CLOSE_SERVICE_HANDLE, R_CONTROL_SERVICE, R_DELETE_SERVICE}
use Rattle.scm_model.specs.declared.codes.TheConstants.{R_ENUM_DEPENDENT_SERVICES_W, R_GET_NOTIFY_RESULTS, R_GET_SERVICE_DISPLAY_NAME_W}
use Rattle.scm_model.specs.declared.codes.TheConstants.{R_GET_SERVICE_KEY_NAME_W, R_LOCK_SERVICE_DATABASE, R_NOTIFY_SERVICE_STATUS_CHANGE}
use Rattle.scm_model.specs.declared.codes.TheConstants.{R_OPEN_SERVICE_W, R_QUERY_SERVICE_CONFIG2_W, R_QUERY_SERVICE_CONFIG_W}
use Rattle.scm_model.specs.declared.codes.TheConstants.{R_QUERY_SERVICE_LOCK_STATUS_W, R_QUERY_SERVICE_OBJECT_SECURITY}
use Rattle.scm_model.specs.declared.codes.TheConstants.{R_QUERY_SERVICE_STATUS, R_QUERY_SERVICE_STATUS_EX, R_UNLOCK_SERVICE_DATABASE}
use Rattle.step_code.specs.declared.requests_read.Common.{Common}
use Rattle.step_code.specs.Codes.{n4, n8, some, list, text, byte_list, joined, status, action, info_code, common_code}
use Rattle.scm_model.specs.Opnums.{opnum}
use Rattle.step_code.specs.Codes.{change_code, create_code, fields, request_code}
use Rattle.step_code.specs.Fits.{Is4, Is8, IsAbsentOr, IsText, IsByteList, IsInfo, IsChange, IsNew, IsRequest}
use Rattle.step_code.specs.Reading.{◌>>=◌, byte_at, failure_at, info_at, common_at, change_at, create_at, set_security_at, set_status_at}
use Rattle.step_code.specs.Reading.{enum_services_at, open_manager_at, start_at, change2_at, by_name, named_at, by_numbers, numbers_at}
use Rattle.step_code.specs.Reading.{by_number, number_at, by_handle, handle_at, fields_at, request_at}
use Rattle.step_code.proofs.Fields.{IsField, last, part, an_n2, an_n4, an_n8, a_flag, maybe, listed, a_text, a_byte_list, a_status}
use Rattle.step_code.proofs.Fields.{an_action, a_trigger}

-- ## Levels

failure_again : (reset : ℕ) (command : Option (List ℕ)) (actions : Option (List Action)) (rest : List ℕ)
    → IsInfo (info.Failure reset command actions)
    → failure_at (joined (n4 reset ∷ some text command ∷ some (list action) actions ∷ []) ++ rest)
    ≡ Some (info.Failure reset command actions, rest)
unfolding failure_at
failure_again reset command actions rest fits =
    let m2 = joined (some (list action) actions ∷ []) in
    part an_n4 _ reset (some text command ++ m2) rest _ fits.0
    (part (maybe a_text) _ command m2 rest _ fits.1
    (part (maybe (listed an_action)) _ actions [] rest _ fits.2 refl))

info_again : (asked : Info) (rest : List ℕ) → IsInfo asked → info_at (info_code asked ++ rest) ≡ Some (asked, rest)
unfolding info_at byte_at
info_again (info.Description asked) rest fits = last (maybe a_text) _ asked rest _ fits refl
info_again (info.Failure reset command actions) rest fits = failure_again reset command actions rest fits
info_again (info.Delayed on) rest fits = last a_flag _ on rest _ tt refl
info_again (info.OnExit on) rest fits = last a_flag _ on rest _ tt refl
info_again (info.Triggers triggers) rest fits = last (listed a_trigger) _ triggers rest _ fits refl
info_again (info.Other level) rest fits = last an_n4 _ level rest _ fits refl
info_again (info.Nothing level) rest fits = last an_n4 _ level rest _ fits refl

an_info : IsField Info info_at info_code IsInfo
an_info = record { again = info_again }

-- ## Creations and changes

abbrev pub common_of : Common → List ℕ
common_of c = common_code c.group c.tag c.needs c.account

pub record IsCommon (c : Common) : Type 0 where
  pub group : IsAbsentOr IsText c.group
  pub tag : IsAbsentOr Is4 c.tag
  pub needs : IsAbsentOr IsByteList c.needs
  pub account : IsAbsentOr IsText c.account

common_again : (c : Common) (rest : List ℕ) → IsCommon c → common_at (common_of c ++ rest) ≡ Some (c, rest)
unfolding common_at
common_again c rest fits =
    let m3 = joined (some text c.account ∷ []) in
    let m2 = some byte_list c.needs ++ m3 in
    part (maybe a_text) _ c.group (some n4 c.tag ++ m2) rest _ fits.group
    (part (maybe an_n4) _ c.tag m2 rest _ fits.tag
    (part (maybe a_byte_list) _ c.needs m3 rest _ fits.needs
    (part (maybe a_text) _ c.account [] rest _ fits.account refl)))

a_common : IsField Common common_at common_of IsCommon
a_common = record { again = common_again }

change_again : (c : ChangeService) (rest : List ℕ) → IsChange c → change_at (change_code c ++ rest) ≡ Some (request.Change c, rest)
unfolding change_at
change_again c rest fits =
    let common : Common = record { group = c.group; tag = c.tag; needs = c.needs; account = c.account } in
    let fit : IsCommon common = record { group = fits.group; tag = fits.tag; needs = fits.needs; account = fits.account } in
    let m6 = joined (some text c.display ∷ []) in
    let m5 = common_of common ++ m6 in
    let m4 = some text c.path ++ m5 in
    let m3 = n4 c.error ++ m4 in
    let m2 = n4 c.start ++ m3 in
    part an_n8 _ c.handle (n4 c.kind ++ m2) rest _ fits.handle
    (part an_n4 _ c.kind m2 rest _ fits.kind
    (part an_n4 _ c.start m3 rest _ fits.start
    (part an_n4 _ c.error m4 rest _ fits.error
    (part (maybe a_text) _ c.path m5 rest _ fits.path
    (part a_common _ common m6 rest _ fit
    (part (maybe a_text) _ c.display [] rest _ fits.display refl))))))

create_again : (c : NewService) (rest : List ℕ) → IsNew c → create_at (create_code c ++ rest) ≡ Some (request.Create c, rest)
unfolding create_at
create_again c rest fits =
    let common : Common = record { group = c.group; tag = c.tag; needs = c.needs; account = c.account } in
    let fit : IsCommon common = record { group = fits.group; tag = fits.tag; needs = fits.needs; account = fits.account } in
    let m8 = joined (common_of common ∷ []) in
    let m7 = text c.path ++ m8 in
    let m6 = n4 c.error ++ m7 in
    let m5 = n4 c.start ++ m6 in
    let m4 = n4 c.kind ++ m5 in
    let m3 = n4 c.access ++ m4 in
    let m2 = some text c.display ++ m3 in
    part an_n8 _ c.handle (text c.name ++ m2) rest _ fits.handle
    (part a_text _ c.name m2 rest _ fits.name
    (part (maybe a_text) _ c.display m3 rest _ fits.display
    (part an_n4 _ c.access m4 rest _ fits.access
    (part an_n4 _ c.kind m5 rest _ fits.kind
    (part an_n4 _ c.start m6 rest _ fits.start
    (part an_n4 _ c.error m7 rest _ fits.error
    (part a_text _ c.path m8 rest _ fits.path
    (part a_common _ common [] rest _ fit refl))))))))

-- ## The other requests with fields of their own

set_security_again : (handle parts : ℕ) (bytes rest : List ℕ) → Is8 handle × Is4 parts × IsByteList bytes
    → set_security_at (joined (n8 handle ∷ n4 parts ∷ byte_list bytes ∷ []) ++ rest) ≡ Some (request.SetSecurity handle parts bytes, rest)
unfolding set_security_at
set_security_again handle parts bytes rest fits =
    let m2 = joined (byte_list bytes ∷ []) in
    part an_n8 _ handle (n4 parts ++ m2) rest _ fits.0
    (part an_n4 _ parts m2 rest _ fits.1
    (part a_byte_list _ bytes [] rest _ fits.2 refl))

set_status_again : (handle : ℕ) (asked : Status) (rest : List ℕ) → IsRequest (request.SetStatus handle asked)
    → set_status_at (joined (n8 handle ∷ status asked ∷ []) ++ rest) ≡ Some (request.SetStatus handle asked, rest)
unfolding set_status_at
set_status_again handle asked rest fits =
    part an_n8 _ handle (joined (status asked ∷ [])) rest _ fits.0
    (part a_status _ asked [] rest _ fits.1 refl)

enum_services_again : (handle kinds states size : ℕ) (resume : Option ℕ) (rest : List ℕ)
    → IsRequest (request.EnumServices handle kinds states size resume)
    → enum_services_at (joined (n8 handle ∷ n4 kinds ∷ n4 states ∷ n4 size ∷ some n4 resume ∷ []) ++ rest)
    ≡ Some (request.EnumServices handle kinds states size resume, rest)
unfolding enum_services_at
enum_services_again handle kinds states size resume rest fits =
    let m4 = joined (some n4 resume ∷ []) in
    let m3 = n4 size ++ m4 in
    let m2 = n4 states ++ m3 in
    part an_n8 _ handle (n4 kinds ++ m2) rest _ fits.0
    (part an_n4 _ kinds m2 rest _ fits.1
    (part an_n4 _ states m3 rest _ fits.2
    (part an_n4 _ size m4 rest _ fits.3
    (part (maybe an_n4) _ resume [] rest _ fits.4 refl))))

open_manager_again : (database : Option (List ℕ)) (access : ℕ) (rest : List ℕ) → IsRequest (request.OpenManager database access)
    → open_manager_at (joined (some text database ∷ n4 access ∷ []) ++ rest) ≡ Some (request.OpenManager database access, rest)
unfolding open_manager_at
open_manager_again database access rest fits =
    part (maybe a_text) _ database (joined (n4 access ∷ [])) rest _ fits.0
    (part an_n4 _ access [] rest _ fits.1 refl)

start_again : (handle : ℕ) (words : Option (List (List ℕ))) (rest : List ℕ) → IsRequest (request.Start handle words)
    → start_at (joined (n8 handle ∷ some (list text) words ∷ []) ++ rest) ≡ Some (request.Start handle words, rest)
unfolding start_at
start_again handle words rest fits =
    part an_n8 _ handle (joined (some (list text) words ∷ [])) rest _ fits.0
    (part (maybe (listed a_text)) _ words [] rest _ fits.1 refl)

change2_again : (handle : ℕ) (asked : Info) (rest : List ℕ) → IsRequest (request.Change2 handle asked)
    → change2_at (joined (n8 handle ∷ info_code asked ∷ []) ++ rest) ≡ Some (request.Change2 handle asked, rest)
unfolding change2_at
change2_again handle asked rest fits =
    part an_n8 _ handle (joined (info_code asked ∷ [])) rest _ fits.0
    (part an_info _ asked [] rest _ fits.1 refl)

-- ## Requests of a handle, and of a name and numbers

abbrev with_rest : List ℕ → Option Request → Option (Request × List ℕ)
with_rest rest asked = asked >>= λ r. Some (r, rest)

named_again : (op handle : ℕ) (name : List ℕ) (number : ℕ) (asked : Request) (rest : List ℕ)
    → Is8 handle × IsText name × Is4 number → by_name op handle name number ≡ Some asked
    → named_at op (joined (n8 handle ∷ text name ∷ n4 number ∷ []) ++ rest) ≡ Some (asked, rest)
unfolding named_at
named_again op handle name number asked rest fits is =
    let m2 = joined (n4 number ∷ []) in
    part an_n8 _ handle (text name ++ m2) rest _ fits.0
    (part a_text _ name m2 rest _ fits.1
    (part an_n4 _ number [] rest _ fits.2 (ap (with_rest rest) is)))

numbers_again : (op handle first second : ℕ) (asked : Request) (rest : List ℕ)
    → Is8 handle × Is4 first × Is4 second → by_numbers op handle first second ≡ Some asked
    → numbers_at op (joined (n8 handle ∷ n4 first ∷ n4 second ∷ []) ++ rest) ≡ Some (asked, rest)
unfolding numbers_at
numbers_again op handle first second asked rest fits is =
    let m2 = joined (n4 second ∷ []) in
    part an_n8 _ handle (n4 first ++ m2) rest _ fits.0
    (part an_n4 _ first m2 rest _ fits.1
    (part an_n4 _ second [] rest _ fits.2 (ap (with_rest rest) is)))

number_again : (op handle number : ℕ) (asked : Request) (rest : List ℕ)
    → Is8 handle × Is4 number → by_number op handle number ≡ Some asked
    → number_at op (joined (n8 handle ∷ n4 number ∷ []) ++ rest) ≡ Some (asked, rest)
unfolding number_at
number_again op handle number asked rest fits is =
    part an_n8 _ handle (joined (n4 number ∷ [])) rest _ fits.0
    (part an_n4 _ number [] rest _ fits.1 (ap (with_rest rest) is))

handle_again : (op handle : ℕ) (asked : Request) (rest : List ℕ) → Is8 handle → by_handle op handle ≡ Some asked
    → handle_at op (n8 handle ++ rest) ≡ Some (asked, rest)
unfolding handle_at
handle_again op handle asked rest fits is = last an_n8 _ handle rest _ fits (ap (with_rest rest) is)

-- ## All of them

fields_again : (r : Request) (rest : List ℕ) → IsRequest r → fields_at (opnum r) (fields r ++ rest) ≡ Some (r, rest)
fields_again (request.Close handle) rest fits = handle_again R_CLOSE_SERVICE_HANDLE handle _ rest fits refl
fields_again (request.Control handle n) rest fits = number_again R_CONTROL_SERVICE handle n _ rest fits refl
fields_again (request.Delete handle) rest fits = handle_again R_DELETE_SERVICE handle _ rest fits refl
fields_again (request.Lock handle) rest fits = handle_again R_LOCK_SERVICE_DATABASE handle _ rest fits refl
fields_again (request.QuerySecurity handle n m) rest fits = numbers_again R_QUERY_SERVICE_OBJECT_SECURITY handle n m _ rest fits refl
fields_again (request.SetSecurity handle parts bytes) rest fits = set_security_again handle parts bytes rest fits
fields_again (request.QueryStatus handle) rest fits = handle_again R_QUERY_SERVICE_STATUS handle _ rest fits refl
fields_again (request.SetStatus handle asked) rest fits = set_status_again handle asked rest fits
fields_again (request.Unlock handle) rest fits = handle_again R_UNLOCK_SERVICE_DATABASE handle _ rest fits refl
fields_again (request.Change asked) rest fits = change_again asked rest fits
fields_again (request.Create asked) rest fits = create_again asked rest fits
fields_again (request.EnumDependents handle n m) rest fits = numbers_again R_ENUM_DEPENDENT_SERVICES_W handle n m _ rest fits refl
fields_again (request.EnumServices handle kinds states size resume) rest fits =
    enum_services_again handle kinds states size resume rest fits
fields_again (request.OpenManager database access) rest fits = open_manager_again database access rest fits
fields_again (request.OpenService handle name n) rest fits = named_again R_OPEN_SERVICE_W handle name n _ rest fits refl
fields_again (request.QueryConfig handle n) rest fits = number_again R_QUERY_SERVICE_CONFIG_W handle n _ rest fits refl
fields_again (request.QueryLock handle n) rest fits = number_again R_QUERY_SERVICE_LOCK_STATUS_W handle n _ rest fits refl
fields_again (request.Start handle words) rest fits = start_again handle words rest fits
fields_again (request.DisplayName handle name n) rest fits = named_again R_GET_SERVICE_DISPLAY_NAME_W handle name n _ rest fits refl
fields_again (request.KeyName handle name n) rest fits = named_again R_GET_SERVICE_KEY_NAME_W handle name n _ rest fits refl
fields_again (request.Change2 handle asked) rest fits = change2_again handle asked rest fits
fields_again (request.QueryConfig2 handle n m) rest fits = numbers_again R_QUERY_SERVICE_CONFIG2_W handle n m _ rest fits refl
fields_again (request.QueryStatusEx handle n m) rest fits = numbers_again R_QUERY_SERVICE_STATUS_EX handle n m _ rest fits refl
fields_again (request.Notify handle n) rest fits = number_again R_NOTIFY_SERVICE_STATUS_CHANGE handle n _ rest fits refl
fields_again (request.GetNotify handle) rest fits = handle_again R_GET_NOTIFY_RESULTS handle _ rest fits refl
fields_again (request.CloseNotify handle) rest fits = handle_again R_CLOSE_NOTIFY_HANDLE handle _ rest fits refl

opnum_low : (r : Request) → opnum r < 2 ^ 16
opnum_low (request.Close handle) = omega arith
opnum_low (request.Control handle n) = omega arith
opnum_low (request.Delete handle) = omega arith
opnum_low (request.Lock handle) = omega arith
opnum_low (request.QuerySecurity handle n m) = omega arith
opnum_low (request.SetSecurity handle n bytes) = omega arith
opnum_low (request.QueryStatus handle) = omega arith
opnum_low (request.SetStatus handle asked) = omega arith
opnum_low (request.Unlock handle) = omega arith
opnum_low (request.Change asked) = omega arith
opnum_low (request.Create asked) = omega arith
opnum_low (request.EnumDependents handle n m) = omega arith
opnum_low (request.EnumServices handle n m k resume) = omega arith
opnum_low (request.OpenManager database n) = omega arith
opnum_low (request.OpenService handle name n) = omega arith
opnum_low (request.QueryConfig handle n) = omega arith
opnum_low (request.QueryLock handle n) = omega arith
opnum_low (request.Start handle words) = omega arith
opnum_low (request.DisplayName handle name n) = omega arith
opnum_low (request.KeyName handle name n) = omega arith
opnum_low (request.Change2 handle asked) = omega arith
opnum_low (request.QueryConfig2 handle n m) = omega arith
opnum_low (request.QueryStatusEx handle n m) = omega arith
opnum_low (request.Notify handle n) = omega arith
opnum_low (request.GetNotify handle) = omega arith
opnum_low (request.CloseNotify handle) = omega arith

request_again : (r : Request) (rest : List ℕ) → IsRequest r → request_at (request_code r ++ rest) ≡ Some (r, rest)
unfolding request_at
request_again r rest fits = part an_n2 _ (opnum r) (fields r) rest _ (opnum_low r) (fields_again r rest fits)

pub a_request : IsField Request request_at request_code IsRequest
a_request = record { again = request_again }
