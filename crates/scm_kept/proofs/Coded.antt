-- What has a code that is bytes fits the types of the program.
use Rattle.std.proofs.Common.{ℕ, ◌++◌, All, List, [], ◌∷◌, Option, Some, None, IfSome, subst, arith, length, length-append}
use Rattle.std.proofs.lemmas.List.{get_or_append_left}
use Rattle.std.proofs.lemmas.List.Elements.{All-head, All-tail, All-weaker}
use Rattle.scm_model.specs.declared.flat.Action.{Action}
use Rattle.scm_model.specs.declared.calls.ChangeService.{ChangeService}
use Rattle.scm_model.specs.declared.calls.Info.{Info}
use Rattle.scm_model.specs.declared.calls.Info.TheVariants as info
use Rattle.scm_model.specs.declared.calls.NewService.{NewService}
use Rattle.scm_model.specs.declared.calls.Request.{Request}
use Rattle.scm_model.specs.declared.calls.Request.TheVariants as request
use Rattle.scm_model.specs.declared.steps.Step.{Step}
use Rattle.scm_model.specs.declared.steps.Step.TheVariants as step
use Rattle.scm_model.specs.Entries.{Entry}
use Rattle.scm_model.specs.Opnums.{opnum}
use Rattle.step_code.specs.Codes.{appended, byte_list, common_code, fields, joined, n2, n4, n8, request_code, some, step_code, text}
use Rattle.step_code.specs.Fits as has
use Rattle.scm_trail.specs.Segments.{IsCoded}
use Rattle.service_record.specs.Spelling.{IsSubtype}
use Rattle.scm_kept.specs.Fitting.{AllFit, AreBytes, AreBytesIn, FitsDelay, FitsLevel, FitsRequest, FitsStep, FitsTrigger, IsByte, IsTextIn}

-- ## Within a code

bytes_left : (xs ys : List ℕ) → AreBytes (xs ++ ys) → AreBytes xs
bytes_left xs ys fit k d within =
    subst IsByte (get_or_append_left xs ys d k within) (fit k d (omega (arith, length-append xs ys, within)))

bytes_right : (xs ys : List ℕ) → AreBytes (xs ++ ys) → AreBytes ys
bytes_right [] ys fit = fit
bytes_right (x ∷ xs) ys fit = bytes_right xs ys (All-tail IsByte x (xs ++ ys) fit)

-- the fields after the first
rest_of : (field : List ℕ) (others : List (List ℕ)) → AreBytes (joined (field ∷ others)) → AreBytes (joined others)
rest_of field others fit = bytes_right field (joined others) fit

first_of : (field : List ℕ) (others : List (List ℕ)) → AreBytes (joined (field ∷ others)) → AreBytes field
first_of field others fit = bytes_left field (joined others) fit

-- ## Needs

given_bytes : (needs : Option (List ℕ)) → AreBytes (some byte_list needs) → AreBytesIn needs
given_bytes None fit = tt
given_bytes (Some bytes) fit = bytes_right (n4 (length bytes)) bytes (All-tail IsByte 1 (byte_list bytes) fit)

needs_in : (group : Option (List ℕ)) (tag : Option ℕ) (needs account : Option (List ℕ)) → AreBytes (common_code group tag needs account)
    → AreBytesIn needs
needs_in group tag needs account fit =
    let last : List (List ℕ) = some text account ∷ [] in
    let from_needs : List (List ℕ) = some byte_list needs ∷ last in
    let from_tag : List (List ℕ) = some n4 tag ∷ from_needs in
    given_bytes needs (first_of (some byte_list needs) last (rest_of (some n4 tag) from_needs (rest_of (some text group) from_tag fit)))

created_needs : (c : NewService) → AreBytes (fields (request.Create c)) → AreBytesIn c.needs
created_needs c fit =
    let common = common_code c.group c.tag c.needs c.account in
    let l8 : List (List ℕ) = common ∷ [] in
    let l7 : List (List ℕ) = text c.path ∷ l8 in
    let l6 : List (List ℕ) = n4 c.error ∷ l7 in
    let l5 : List (List ℕ) = n4 c.start ∷ l6 in
    let l4 : List (List ℕ) = n4 c.kind ∷ l5 in
    let l3 : List (List ℕ) = n4 c.access ∷ l4 in
    let l2 : List (List ℕ) = some text c.display ∷ l3 in
    let l1 : List (List ℕ) = text c.name ∷ l2 in
    let f4 = rest_of (n4 c.access) l4 (rest_of (some text c.display) l3 (rest_of (text c.name) l2 (rest_of (n8 c.handle) l1 fit))) in
    let f8 = rest_of (text c.path) l8 (rest_of (n4 c.error) l7 (rest_of (n4 c.start) l6 (rest_of (n4 c.kind) l5 f4))) in
    needs_in c.group c.tag c.needs c.account (first_of common [] f8)

changed_needs : (c : ChangeService) → AreBytes (fields (request.Change c)) → AreBytesIn c.needs
changed_needs c fit =
    let common = common_code c.group c.tag c.needs c.account in
    let l6 : List (List ℕ) = some text c.display ∷ [] in
    let l5 : List (List ℕ) = common ∷ l6 in
    let l4 : List (List ℕ) = some text c.path ∷ l5 in
    let l3 : List (List ℕ) = n4 c.error ∷ l4 in
    let l2 : List (List ℕ) = n4 c.start ∷ l3 in
    let l1 : List (List ℕ) = n4 c.kind ∷ l2 in
    let f5 = rest_of (some text c.path) l5 (rest_of (n4 c.error) l4 (rest_of (n4 c.start) l3 (rest_of (n4 c.kind) l2
    (rest_of (n8 c.handle) l1 fit)))) in
    needs_in c.group c.tag c.needs c.account (first_of common l6 f5)

-- ## Requests

given_text : (given : Option (List ℕ)) → has.IsAbsentOr has.IsText given → IsTextIn given
given_text None fit = tt
given_text (Some units) fit = fit.1

given_actions : (given : Option (List Action)) → has.IsAbsentOr (has.AreItems has.IsAction) given → IfSome given (All FitsDelay)
given_actions None fit = tt
given_actions (Some actions) fit = All-weaker has.IsAction FitsDelay (λ a is. is.1) actions fit.1

given_subtype : (given : Option (List ℕ)) → has.IsAbsentOr has.IsSubtype given → IfSome given IsSubtype
given_subtype None fit = tt
given_subtype (Some bytes) fit = fit

level : (asked : Info) → has.IsInfo asked → FitsLevel asked
level (info.Description asked) fit = given_text asked fit
level (info.Failure reset command actions) fit = (fit.0, given_text command fit.1, given_actions actions fit.2)
level (info.Triggers triggers) fit =
    All-weaker has.IsTrigger FitsTrigger (λ t is. (is.action, given_subtype t.subtype is.subtype)) triggers fit.1
level (info.Delayed on) fit = tt
level (info.OnExit on) fit = tt
level (info.Other code) fit = tt
level (info.Nothing code) fit = tt

of_request : (asked : Request) → has.IsRequest asked → AreBytes (fields asked) → FitsRequest asked
of_request (request.Create new) fit bytes = record {
  name = fit.name.1;
  display = given_text new.display fit.display;
  path = fit.path.1;
  group = given_text new.group fit.group;
  needs = created_needs new bytes;
}
of_request (request.Change change) fit bytes = record {
  display = given_text change.display fit.display;
  path = given_text change.path fit.path;
  group = given_text change.group fit.group;
  needs = changed_needs change bytes;
}
of_request (request.Change2 handle asked) fit bytes = level asked fit.1
of_request asked fit bytes = tt

-- ## Entries

of_step : (s : Step) → has.HasCode s → AreBytes (step_code s) → FitsStep s
of_step (step.Call caller asked append) fit bytes =
    let last : List (List ℕ) = (appended append ∷ []) ∷ [] in
    let asks : List (List ℕ) = request_code asked ∷ last in
    let after_caller = rest_of (n8 caller) asks (All-tail IsByte 1 (joined (n8 caller ∷ asks)) bytes) in
    of_request asked fit.1 (bytes_right (n2 (opnum asked)) (fields asked) (first_of (request_code asked) last after_caller))
of_step s fit bytes = tt

of_entry : (e : Entry) → IsCoded e → FitsStep e.1
of_entry e coded = of_step e.1 coded.fits.1 (bytes_right (n8 e.0) (step_code e.1) coded.bytes)

pub all_fit : (es : List Entry) → All IsCoded es → AllFit es
all_fit [] coded = tt
all_fit (e ∷ es) coded = (of_entry e (All-head IsCoded e es coded), all_fit es (All-tail IsCoded e es coded))
