-- A request that has a code, and not too much text, can stand in a body of bytes.
use Rattle.std.proofs.Common.{ℕ, zero, suc, ◌≡◌, ◌*◌, ◌<◌, ◌^◌, Bool, true, false, List, [], ◌∷◌, length, get_or, Option, Some, None}
use Rattle.std.proofs.Common.{refl, arith}
use Rattle.std.specs.Prelude.{IfSome}
use Rattle.std.specs.List.{AllByRecursion, flat_map}
use Rattle.std.proofs.lemmas.List.Elements.{All-weaker, recursion_from_All}
use Rattle.hex.specs.Hex.{IsBytes}
use Rattle.scm_model.specs.declared.flat.Action.{Action}
use Rattle.scm_model.specs.declared.flat.Status.{Status}
use Rattle.scm_model.specs.declared.calls.ChangeService.{ChangeService}
use Rattle.scm_model.specs.declared.calls.Info.{Info}
use Rattle.scm_model.specs.declared.calls.Info.TheVariants as info
use Rattle.scm_model.specs.declared.calls.NewService.{NewService}
use Rattle.scm_model.specs.declared.calls.Request.{Request}
use Rattle.scm_model.specs.declared.calls.Request.TheVariants as request
use Rattle.scm_model.specs.declared.calls.TriggerIn.{TriggerIn}
use Rattle.scm_model.specs.Texts.{some_text, some_words, text_of_call, text_of_info, text_of_words}
use Rattle.step_code.specs.Codes.{byte_list, change_code, common_code, create_code, fields, flag, info_code, joined, n4, n8, some}
use Rattle.step_code.specs.Codes.{subtype, text, trigger}
use Rattle.step_code.specs.Fits.{AreItems, Is4, IsAbsentOr, IsAction, IsByteList, IsChange, IsInfo, IsNew, IsRequest, IsStatus, IsSubtype}
use Rattle.step_code.specs.Fits.{IsText, IsTrigger, IsUnit}
use Rattle.ndr_body.specs.Laws.{IsSent}
use Rattle.scm_shapes.specs.declared.item.Value.{Value}
use Rattle.scm_shapes.specs.declared.item.Value.TheVariants as value
use Rattle.scm_shapes.specs.Levels.{IsActionSent, IsInfoSent, IsTriggerSent}
use Rattle.scm_bodies.specs.Requests.{AreCarried, request_bytes, values_of}
use Rattle.trail_export.proofs.Bodies.{AreBytes, by_place, front_bytes, rest_bytes}
use Rattle.trail_export.proofs.Values.{HasBytes, HoldsBytes, InfoHasBytes, body_fits}

-- ## What stands in a body

sent : (units : List ℕ) → IsText units → 2 * length units < 2 ^ 32 → IsSent units
sent units fits small = record {
  short = omega (arith, small);
  no_zero = All-weaker IsUnit (λ u. 0 < u) (λ u unit. unit.0) units fits.1;
  units = All-weaker IsUnit (λ u. u < 2 ^ 16) (λ u unit. unit.1) units fits.1;
}

some_sent : (given : Option (List ℕ)) → IsAbsentOr IsText given → some_text given < 2 ^ 32 → IfSome given IsSent
some_sent None fits small = tt
some_sent (Some units) fits small = sent units fits small

some_number : (given : Option ℕ) → IsAbsentOr Is4 given → IfSome given (λ n. n < 2 ^ 32)
some_number None fits = tt
some_number (Some n) fits = fits

some_held : (given : Option (List ℕ)) → IsAbsentOr IsByteList given → IfSome given (λ held. length held < 2 ^ 32)
some_held None fits = tt
some_held (Some held) fits = fits

words_sent : (words : List (List ℕ)) → AllByRecursion IsText words → text_of_words words < 2 ^ 32 → AllByRecursion IsSent words
words_sent [] fits small = tt
words_sent (word ∷ words) fits small = (sent word fits.0 (omega (arith, small)), words_sent words fits.1 (omega (arith, small)))

given_words : (words : Option (List (List ℕ))) → IsAbsentOr (AreItems IsText) words → some_words words < 2 ^ 32
    → IfSome words (λ words. AllByRecursion IsSent words)
given_words None fits small = tt
given_words (Some words) fits small = words_sent words (recursion_from_All IsText words fits.1) small

actions_sent : (actions : List Action) → AllByRecursion IsAction actions → AllByRecursion IsActionSent actions
actions_sent [] fits = tt
actions_sent (action ∷ actions) fits = (record { what = fits.0.0; delay = fits.0.1 }, actions_sent actions fits.1)

given_actions : (actions : Option (List Action)) → IsAbsentOr (AreItems IsAction) actions
    → IfSome actions (λ listed. AllByRecursion IsActionSent listed)
given_actions None fits = tt
given_actions (Some actions) fits = actions_sent actions (recursion_from_All IsAction actions fits.1)

subtype_sent : (given : Option (List ℕ)) → IsAbsentOr IsSubtype given → IfSome given (λ uuid. length uuid ≡ 16)
subtype_sent None fits = tt
subtype_sent (Some uuid) fits = fits

triggers_sent : (triggers : List TriggerIn) → AllByRecursion IsTrigger triggers → AllByRecursion IsTriggerSent triggers
triggers_sent [] fits = tt
triggers_sent (trigger ∷ triggers) fits = (
  record {
    kind = fits.0.kind;
    action = fits.0.action;
    subtype = subtype_sent trigger.subtype fits.0.subtype;
    items = fits.0.items;
  },
  triggers_sent triggers fits.1,
)

info_sent : (asked : Info) → IsInfo asked → text_of_info asked < 2 ^ 32 → IsInfoSent asked
info_sent (info.Description given) fits small = some_sent given fits small
info_sent (info.Failure reset command actions) fits small =
    (fits.0, (some_sent command fits.1 (omega (arith, small)), given_actions actions fits.2))
info_sent (info.Delayed on) fits small = tt
info_sent (info.OnExit on) fits small = tt
info_sent (info.Triggers triggers) fits small = triggers_sent triggers (recursion_from_All IsTrigger triggers fits.1)
info_sent (info.Other level) fits small = fits
info_sent (info.Nothing level) fits small = fits

change_carried : (c : ChangeService) → IsChange c → text_of_call (request.Change c) < 2 ^ 32 → AreCarried (request.Change c)
change_carried c fits small = (
  fits.handle,
  (
    fits.kind,
    (
      fits.start,
      (
        fits.error,
        (
          some_sent c.path fits.path (omega (arith, small)),
          (
            some_sent c.group
                fits.group (omega (arith, small)),
            (
              some_number c.tag fits.tag,
              (
                some_held c.needs fits.needs,
                (
                  some_sent c.account fits.account
                      (omega (arith, small)),
                  (tt, (some_sent c.display fits.display (omega (arith, small)), tt)),
                ),
              ),
            ),
          ),
        ),
      ),
    ),
  ),
)

create_carried : (c : NewService) → IsNew c → text_of_call (request.Create c) < 2 ^ 32 → AreCarried (request.Create c)
create_carried c fits small = (
  fits.handle,
  (
    sent c.name fits.name (omega (arith, small)),
    (
      some_sent c.display fits.display (omega (arith, small)),
      (
        fits.access,
        (
          fits.kind,
          (
            fits.start,
            (
              fits.error,
              (
                sent c.path fits.path (omega (arith, small)),
                (
                  some_sent c.group fits.group (omega (
                    arith,
                    small,
                  )),
                  (
                    some_number c.tag fits.tag,
                    (
                      some_held c.needs fits.needs,
                      (
                        some_sent c.account fits.account (omega (arith, small)),
                        (
                          tt,
                          tt,
                        ),
                      ),
                    ),
                  ),
                ),
              ),
            ),
          ),
        ),
      ),
    ),
  ),
)

status_carried : (handle : ℕ) (s : Status) → handle < 2 ^ 64 → IsStatus s → AreCarried (request.SetStatus handle s)
status_carried handle s fits of_status = (
  fits,
  (
    of_status.kind,
    (
      of_status.state,
      (
        of_status.accepted,
        (
          of_status.win32,
          (
            of_status.specific,
            (
              of_status.checkpoint,
              (of_status.hint, tt),
            ),
          ),
        ),
      ),
    ),
  ),
)

pub carried : (r : Request) → IsRequest r → text_of_call r < 2 ^ 32 → AreCarried r
carried (request.Close handle) fits small = (fits, tt)
carried (request.Control handle control) fits small = (fits.0, (fits.1, tt))
carried (request.Delete handle) fits small = (fits, tt)
carried (request.Lock handle) fits small = (fits, tt)
carried (request.QuerySecurity handle parts size) fits small = (fits.0, (fits.1, (fits.2, tt)))
carried (request.SetSecurity handle parts bytes) fits small = (fits.0, (fits.1, (fits.2, tt)))
carried (request.QueryStatus handle) fits small = (fits, tt)
carried (request.SetStatus handle asked) fits small = status_carried handle asked fits.0 fits.1
carried (request.Unlock handle) fits small = (fits, tt)
carried (request.Change asked) fits small = change_carried asked fits small
carried (request.Create asked) fits small = create_carried asked fits small
carried (request.EnumDependents handle states size) fits small = (fits.0, (fits.1, (fits.2, tt)))
carried (request.EnumServices handle kinds states size resume) fits small =
    (fits.0, (fits.1, (fits.2, (fits.3, (some_number resume fits.4, tt)))))
carried (request.OpenManager database access) fits small = (tt, (some_sent database fits.0 small, (fits.1, tt)))
carried (request.OpenService handle name access) fits small = (fits.0, (sent name fits.1 small, (fits.2, tt)))
carried (request.QueryConfig handle size) fits small = (fits.0, (fits.1, tt))
carried (request.QueryLock handle size) fits small = (fits.0, (fits.1, tt))
carried (request.Start handle words) fits small = (fits.0, (given_words words fits.1 small, tt))
carried (request.DisplayName handle name size) fits small = (fits.0, (sent name fits.1 small, (fits.2, tt)))
carried (request.KeyName handle name size) fits small = (fits.0, (sent name fits.1 small, (fits.2, tt)))
carried (request.Change2 handle asked) fits small = (fits.0, (info_sent asked fits.1 small, tt))
carried (request.QueryConfig2 handle level size) fits small = (fits.0, (fits.1, (fits.2, tt)))
carried (request.QueryStatusEx handle level size) fits small = (fits.0, (fits.1, (fits.2, tt)))
carried (request.Notify handle mask) fits small = (fits.0, (fits.1, tt))
carried (request.GetNotify handle) fits small = (fits, tt)
carried (request.CloseNotify handle) fits small = (fits, tt)

-- ## The bytes of a body

-- the bytes of a field are bytes
pub field : (place : ℕ) (all : List (List ℕ)) → AreBytes (joined all) → AreBytes (get_or all place [])
field zero [] fits = tt
field (suc place) [] fits = tt
field zero (one ∷ more) fits = front_bytes one (joined more) fits
field (suc place) (one ∷ more) fits = field place more (rest_bytes one (joined more) fits)

needs_held : (needs : Option (List ℕ)) → AreBytes (some byte_list needs) → IfSome needs AreBytes
needs_held None fits = tt
needs_held (Some held) fits = rest_bytes (n4 (length held)) held (rest_bytes (flag true) (byte_list held) fits)

common_held : (group : Option (List ℕ)) (tag : Option ℕ) (needs account : Option (List ℕ))
    → AreBytes (common_code group tag needs account) → IfSome needs AreBytes
common_held group tag needs account fits = needs_held needs
    (field 2 (some text group ∷ some n4 tag ∷ some byte_list needs ∷ some text account ∷ []) fits)

change_held : (c : ChangeService) → AreBytes (change_code c) → IfSome c.needs AreBytes
change_held c fits = common_held c.group c.tag c.needs c.account
    (field 5 (n8 c.handle ∷ n4 c.kind ∷ n4 c.start ∷ n4 c.error ∷ some text c.path
    ∷ common_code c.group c.tag c.needs c.account ∷ some text c.display ∷ []) fits)

create_held : (c : NewService) → AreBytes (create_code c) → IfSome c.needs AreBytes
create_held c fits = common_held c.group c.tag c.needs c.account
    (field 8 (n8 c.handle ∷ text c.name ∷ some text c.display ∷ n4 c.access ∷ n4 c.kind ∷ n4 c.start ∷ n4 c.error ∷ text c.path
    ∷ common_code c.group c.tag c.needs c.account ∷ []) fits)

security_held : (handle parts : ℕ) (held : List ℕ) → AreBytes (fields (request.SetSecurity handle parts held)) → AreBytes held
security_held handle parts held fits = rest_bytes (n4 (length held)) held (field 2 (n8 handle ∷ n4 parts ∷ byte_list held ∷ []) fits)

subtype_held : (given : Option (List ℕ)) → AreBytes (some subtype given) → IfSome given AreBytes
subtype_held None fits = tt
subtype_held (Some uuid) fits = rest_bytes (flag true) uuid fits

trigger_held : (t : TriggerIn) → AreBytes (trigger t) → HasBytes t
trigger_held t fits = subtype_held t.subtype (field 2 (n4 t.kind ∷ n4 t.action ∷ some subtype t.subtype ∷ n4 t.items ∷ []) fits)

triggers_held : (triggers : List TriggerIn) → AreBytes (flat_map trigger triggers) → AllByRecursion HasBytes triggers
triggers_held [] fits = tt
triggers_held (t ∷ triggers) fits = (
  trigger_held t (front_bytes (trigger t) (flat_map trigger triggers) fits),
  triggers_held triggers (rest_bytes (trigger t) (flat_map trigger triggers) fits),
)

info_held : (asked : Info) → AreBytes (info_code asked) → InfoHasBytes asked
info_held (info.Triggers triggers) fits = triggers_held triggers (rest_bytes (n4 (length triggers)) (flat_map trigger triggers) fits.1)
info_held _ fits = tt

-- values without a list of bytes
abbrev are_idle : List Value → Bool
are_idle [] = true
are_idle (value.SomeBytes held ∷ vs) = false
are_idle (value.SizedArray held ∷ vs) = false
are_idle (value.Bytes size held ∷ vs) = false
are_idle (value.Info asked ∷ vs) = false
are_idle (v ∷ vs) = are_idle vs

idle : (vs : List Value) → are_idle vs ≡ true → AllByRecursion HoldsBytes vs
idle [] is = tt
idle (value.SomeBytes held ∷ vs) is = absurd cc
idle (value.SizedArray held ∷ vs) is = absurd cc
idle (value.Bytes size held ∷ vs) is = absurd cc
idle (value.Info asked ∷ vs) is = absurd cc
idle (value.Handle n ∷ vs) is = (tt, idle vs is)
idle (value.Number n ∷ vs) is = (tt, idle vs is)
idle (value.Text units ∷ vs) is = (tt, idle vs is)
idle (value.SomeText units ∷ vs) is = (tt, idle vs is)
idle (value.UnkeptText ∷ vs) is = (tt, idle vs is)
idle (value.SomeNumber n ∷ vs) is = (tt, idle vs is)
idle (value.UnkeptBytes ∷ vs) is = (tt, idle vs is)
idle (value.Words words ∷ vs) is = (tt, idle vs is)
idle (value.Lock held owner seconds ∷ vs) is = (tt, idle vs is)
idle (value.Shown shown ∷ vs) is = (tt, idle vs is)

held : (r : Request) → AreBytes (fields r) → AllByRecursion HoldsBytes (values_of r)
held (request.Change c) fits = (tt, (tt, (tt, (tt, (tt, (tt, (tt, (change_held c fits, (tt, (tt, (tt, tt)))))))))))
held (request.Create c) fits = (tt, (tt, (tt, (tt, (tt, (tt, (tt, (tt, (tt, (tt, (create_held c fits, (tt, (tt, tt)))))))))))))
held (request.SetSecurity handle parts bytes) fits = (tt, (tt, (security_held handle parts bytes fits, tt)))
held (request.Change2 handle asked) fits = (tt, (info_held asked (field 1 (n8 handle ∷ info_code asked ∷ []) fits), tt))
held r fits = idle (values_of r) refl

pub body_bytes_fit : (r : Request) → AreBytes (fields r) → IsBytes (request_bytes r)
body_bytes_fit r fits = by_place (request_bytes r) (body_fits (values_of r) (held r fits))
