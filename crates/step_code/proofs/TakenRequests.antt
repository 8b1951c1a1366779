-- What is read of a request is what was written.
use Rattle.std.proofs.Common.{◌≡◌, ℕ, Bool, true, false, cond, ◌==◌, List, [], ◌∷◌, ◌++◌, Option, None, Some, refl, sym, subst, ◌∙◌}
use Rattle.std.proofs.lemmas.Bool.{eqb-true}
use Rattle.scm_model.specs.declared.calls.ChangeService.{ChangeService}
use Rattle.scm_model.specs.declared.calls.Info.{Info}
use Rattle.scm_model.specs.declared.calls.Info.TheVariants as info
use Rattle.scm_model.specs.declared.calls.NewService.{NewService}
use Rattle.scm_model.specs.declared.calls.Request.{Request}
use Rattle.scm_model.specs.declared.calls.Request.TheVariants as request
use Rattle.scm_model.specs.declared.codes.TheConstants.{R_CHANGE_SERVICE_CONFIG2_W, R_CHANGE_SERVICE_CONFIG_W, R_CLOSE_NOTIFY_HANDLE}
use Rattle.scm_model.specs.declared.codes.TheConstants.{R_CLOSE_SERVICE_HANDLE, R_CONTROL_SERVICE, R_CREATE_SERVICE_W, R_DELETE_SERVICE}
use Rattle.scm_model.specs.declared.codes.TheConstants.{R_ENUM_DEPENDENT_SERVICES_W, R_ENUM_SERVICES_STATUS_W, R_GET_NOTIFY_RESULTS}
use Rattle.scm_model.specs.declared.codes.TheConstants.{R_GET_SERVICE_DISPLAY_NAME_W, R_GET_SERVICE_KEY_NAME_W, R_LOCK_SERVICE_DATABASE}
use Rattle.scm_model.specs.declared.codes.TheConstants.{R_NOTIFY_SERVICE_STATUS_CHANGE, R_OPEN_SC_MANAGER_W, R_OPEN_SERVICE_W}
use Rattle.scm_model.specs.declared.codes.TheConstants.{R_QUERY_SERVICE_CONFIG2_W, R_QUERY_SERVICE_CONFIG_W, R_QUERY_SERVICE_LOCK_STATUS_W}
use Rattle.scm_model.specs.declared.codes.TheConstants.{R_QUERY_SERVICE_OBJECT_SECURITY, R_QUERY_SERVICE_STATUS, R_QUERY_SERVICE_STATUS_EX}
use Rattle.scm_model.specs.declared.codes.TheConstants.{R_SET_SERVICE_OBJECT_SECURITY, R_SET_SERVICE_STATUS, R_START_SERVICE_W}
use Rattle.scm_model.specs.declared.codes.TheConstants.{R_UNLOCK_SERVICE_DATABASE}
use Rattle.step_code.specs.declared.requests_read.Common.{Common}
use Rattle.step_code.specs.Codes.{n2, n4, n8, some, list, text, byte_list, joined, status, action, info_code}
use Rattle.scm_model.specs.Opnums.{opnum}
use Rattle.step_code.specs.Codes.{fields, request_code}
use Rattle.step_code.specs.Fits.{Is4, Is8, IsText, IsInfo, IsRequest}
use Rattle.step_code.specs.Reading.{◌>>=◌, Item, failure_at, info_of, info_at}
use Rattle.step_code.specs.Reading.{common_at, change_at, create_at, set_security_at, set_status_at, enum_services_at, open_manager_at}
use Rattle.step_code.specs.Reading.{start_at, change2_at, by_name, named_at, by_numbers, numbers_at, by_number, number_at, by_handle}
use Rattle.step_code.specs.Reading.{handle_at, is_named, has_number, has_numbers, plain_fields_at, fields_at, request_at}
use Rattle.step_code.proofs.Requests.{IsCommon, common_of}
use Rattle.step_code.proofs.Taken.{IsBytes, Takes, IsTaken, some_is, then_takes, ends_taken, step, an_n2, an_n4, an_n8, a_byte, a_flag}
use Rattle.step_code.proofs.Taken.{maybe, listed, a_text, a_byte_list, a_status, an_action, a_trigger, one}

-- one of two, by a test
pub choose : {A : Type 0} (b : Bool) (x y z : A) {Q : Type 0} → (b ≡ true → x ≡ z → Q) → (y ≡ z → Q) → cond b x y ≡ z → Q
choose true x y z here there e = here refl e
choose false x y z here there e = there e

abbrev none : {A : Type 0} → Option A
none = None

pub nothing_is : {A : Type 0} (x : A) {Q : Type 0} → none ≡ Some x → Q
nothing_is x e = absurd cc

-- ## Levels

abbrev InfoTaken : List ℕ → Info × List ℕ → Type 0
InfoTaken bytes x = Takes bytes (info_code x.0) x.1 × IsInfo x.0

failure_takes : (bytes r0 : List ℕ) (x : Info × List ℕ) → Takes bytes (one 1) r0 → failure_at r0 ≡ Some x → InfoTaken bytes x
unfolding failure_at
failure_takes bytes r0 x t0 e =
    step an_n4 _ r0 x t0.rest_fits e (λ reset r1 t1 f1 e1.
    step (maybe a_text) _ r1 x t1.rest_fits e1 (λ command r2 t2 f2 e2.
    step (maybe (listed an_action)) _ r2 x t2.rest_fits e2 (λ actions r3 t3 f3 e3.
    let m3 = joined (some (list action) actions ∷ []) in
    let m2 = some text command ++ m3 in
    let p2 = then_takes r1 (some text command) r2 m3 r3 t2 (ends_taken r2 (some (list action) actions) r3 t3) in
    let p1 = then_takes r0 (n4 reset) r1 m2 r3 t1 p2 in
    subst (InfoTaken bytes) (some_is (info.Failure reset command actions, r3) x e3)
    (then_takes bytes (one 1) r0 (n4 reset ++ m2) r3 t0 p1, (f1, f2, f3)))))

-- a level of one field
module _ {A : Type 0} {read : List ℕ → Item A} {encode : A → List ℕ} {Fits : A → Type 0} (field : IsTaken A read encode Fits)
    (level : ℕ) (make : A → Info) (code_is : (a : A) → info_code (make a) ≡ one level ++ encode a)
    (fit : (a : A) → Fits a → IsInfo (make a))
  where
    level_takes : (bytes r0 : List ℕ) (x : Info × List ℕ) → Takes bytes (one level) r0 → (read r0 >>= λ y. Some (make y.0, y.1)) ≡ Some x
        → InfoTaken bytes x
    level_takes bytes r0 x t0 e =
        step field _ r0 x t0.rest_fits e (λ a r1 t1 f1 e1.
        subst (InfoTaken bytes) (some_is (make a, r1) x e1) (
          subst (λ (code : List ℕ). Takes bytes code r1) (sym (code_is a)) (then_takes bytes (one level) r0 (encode a) r1 t0 t1),
          fit a f1,
        ))

same_level : (level n : ℕ) (bytes rest : List ℕ) → level ≡ n → Takes bytes (one level) rest → Takes bytes (one n) rest
same_level level n bytes rest same taken = subst (λ (k : ℕ). Takes bytes (one k) rest) same taken

info_made : (level : ℕ) (bytes r0 : List ℕ) (x : Info × List ℕ) → Takes bytes (one level) r0 → info_of level r0 ≡ Some x
    → InfoTaken bytes x
info_made level bytes r0 x t0 e =
    choose (level == 0) _ _ (Some x) (λ b h. level_takes (maybe a_text) 0 info.Description (λ _. refl) (λ _ f. f) bytes r0 x
    (same_level level 0 bytes r0 (eqb-true level 0 b) t0) h) (λ e1.
    choose (level == 1) _ _ (Some x) (λ b h. failure_takes bytes r0 x (same_level level 1 bytes r0 (eqb-true level 1 b) t0) h) (λ e2.
    choose (level == 2) _ _ (Some x) (λ b h. level_takes a_flag 2 info.Delayed (λ _. refl) (λ _ f. f) bytes r0 x
    (same_level level 2 bytes r0 (eqb-true level 2 b) t0) h) (λ e3.
    choose (level == 3) _ _ (Some x) (λ b h. level_takes a_flag 3 info.OnExit (λ _. refl) (λ _ f. f) bytes r0 x
    (same_level level 3 bytes r0 (eqb-true level 3 b) t0) h) (λ e4.
    choose (level == 4) _ _ (Some x) (λ b h. level_takes (listed a_trigger) 4 info.Triggers (λ _. refl) (λ _ f. f) bytes r0 x
    (same_level level 4 bytes r0 (eqb-true level 4 b) t0) h) (λ e5.
    choose (level == 5) _ _ (Some x) (λ b h. level_takes an_n4 5 info.Other (λ _. refl) (λ _ f. f) bytes r0 x
    (same_level level 5 bytes r0 (eqb-true level 5 b) t0) h) (λ e6.
    choose (level == 6) _ _ (Some x) (λ b h. level_takes an_n4 6 info.Nothing (λ _. refl) (λ _ f. f) bytes r0 x
    (same_level level 6 bytes r0 (eqb-true level 6 b) t0) h) (nothing_is x) e6) e5) e4) e3) e2) e1) e

info_takes : (bytes : List ℕ) (x : Info × List ℕ) → IsBytes bytes → info_at bytes ≡ Some x → Takes bytes (info_code x.0) x.1 × IsInfo x.0
unfolding info_at
info_takes bytes x fits e = step a_byte _ bytes x fits e (λ level r0 t0 _ e0. info_made level bytes r0 x t0 e0)

an_info : IsTaken Info info_at info_code IsInfo
an_info = record { takes = info_takes }

-- ## Creations and changes

common_takes : (bytes : List ℕ) (x : Common × List ℕ) → IsBytes bytes → common_at bytes ≡ Some x
    → Takes bytes (common_of x.0) x.1 × IsCommon x.0
unfolding common_at
common_takes bytes x fits e =
    step (maybe a_text) _ bytes x fits e (λ group r1 t1 f1 e1.
    step (maybe an_n4) _ r1 x t1.rest_fits e1 (λ tag r2 t2 f2 e2.
    step (maybe a_byte_list) _ r2 x t2.rest_fits e2 (λ asked r3 t3 f3 e3.
    step (maybe a_text) _ r3 x t3.rest_fits e3 (λ account r4 t4 f4 e4.
    let c : Common = record { group = group; tag = tag; needs = asked; account = account } in
    let m3 = joined (some text account ∷ []) in
    let m2 = some byte_list asked ++ m3 in
    let p3 = then_takes r2 (some byte_list asked) r3 m3 r4 t3 (ends_taken r3 (some text account) r4 t4) in
    let p2 = then_takes r1 (some n4 tag) r2 m2 r4 t2 p3 in
    subst (λ (y : Common × List ℕ). Takes bytes (common_of y.0) y.1 × IsCommon y.0) (some_is (c, r4) x e4) (
      then_takes bytes (some text group) r1 (some n4 tag ++ m2) r4 t1 p2,
      record { group = f1; tag = f2; needs = f3; account = f4 },
    )))))

a_common : IsTaken Common common_at common_of IsCommon
a_common = record { takes = common_takes }

-- the fields of a request were read, of this opnum
pub record FieldsTaken (op : ℕ) (bytes : List ℕ) (x : Request × List ℕ) : Type 0 where
  pub taken : Takes bytes (fields x.0) x.1
  pub fit : IsRequest x.0
  pub named : op ≡ opnum x.0

change_takes : (bytes : List ℕ) (x : Request × List ℕ) → IsBytes bytes → change_at bytes ≡ Some x
    → FieldsTaken R_CHANGE_SERVICE_CONFIG_W bytes x
unfolding change_at
change_takes bytes x fits e =
    step an_n8 _ bytes x fits e (λ handle r1 t1 f1 e1.
    step an_n4 _ r1 x t1.rest_fits e1 (λ kind r2 t2 f2 e2.
    step an_n4 _ r2 x t2.rest_fits e2 (λ start r3 t3 f3 e3.
    step an_n4 _ r3 x t3.rest_fits e3 (λ error r4 t4 f4 e4.
    step (maybe a_text) _ r4 x t4.rest_fits e4 (λ path r5 t5 f5 e5.
    step a_common _ r5 x t5.rest_fits e5 (λ common r6 t6 f6 e6.
    step (maybe a_text) _ r6 x t6.rest_fits e6 (λ display r7 t7 f7 e7.
    let c : ChangeService = record {
      handle = handle;
      kind = kind;
      start = start;
      error = error;
      path = path;
      group = common.group;
      tag = common.tag;
      needs = common.needs;
      account = common.account;
      display = display;
    } in
    let m6 = joined (some text display ∷ []) in
    let m5 = common_of common ++ m6 in
    let m4 = some text path ++ m5 in
    let m3 = n4 error ++ m4 in
    let m2 = n4 start ++ m3 in
    let p6 = then_takes r5 (common_of common) r6 m6 r7 t6 (ends_taken r6 (some text display) r7 t7) in
    let p5 = then_takes r4 (some text path) r5 m5 r7 t5 p6 in
    let p4 = then_takes r3 (n4 error) r4 m4 r7 t4 p5 in
    let p3 = then_takes r2 (n4 start) r3 m3 r7 t3 p4 in
    let p2 = then_takes r1 (n4 kind) r2 m2 r7 t2 p3 in
    subst (FieldsTaken R_CHANGE_SERVICE_CONFIG_W bytes) (some_is (request.Change c, r7) x e7) (record {
      taken = then_takes bytes (n8 handle) r1 (n4 kind ++ m2) r7 t1 p2;
      fit = record {
        handle = f1;
        kind = f2;
        start = f3;
        error = f4;
        path = f5;
        group = f6.group;
        tag = f6.tag;
        needs = f6.needs;
        account = f6.account;
        display = f7;
      };
      named = refl;
    }))))))))

create_takes : (bytes : List ℕ) (x : Request × List ℕ) → IsBytes bytes → create_at bytes ≡ Some x
    → FieldsTaken R_CREATE_SERVICE_W bytes x
unfolding create_at
create_takes bytes x fits e =
    step an_n8 _ bytes x fits e (λ handle r1 t1 f1 e1.
    step a_text _ r1 x t1.rest_fits e1 (λ name r2 t2 f2 e2.
    step (maybe a_text) _ r2 x t2.rest_fits e2 (λ display r3 t3 f3 e3.
    step an_n4 _ r3 x t3.rest_fits e3 (λ access r4 t4 f4 e4.
    step an_n4 _ r4 x t4.rest_fits e4 (λ kind r5 t5 f5 e5.
    step an_n4 _ r5 x t5.rest_fits e5 (λ start r6 t6 f6 e6.
    step an_n4 _ r6 x t6.rest_fits e6 (λ error r7 t7 f7 e7.
    step a_text _ r7 x t7.rest_fits e7 (λ path r8 t8 f8 e8.
    step a_common _ r8 x t8.rest_fits e8 (λ common r9 t9 f9 e9.
    let c : NewService = record {
      handle = handle;
      name = name;
      display = display;
      access = access;
      kind = kind;
      start = start;
      error = error;
      path = path;
      group = common.group;
      tag = common.tag;
      needs = common.needs;
      account = common.account;
    } in
    let m8 = joined (common_of common ∷ []) in
    let m7 = text path ++ m8 in
    let m6 = n4 error ++ m7 in
    let m5 = n4 start ++ m6 in
    let m4 = n4 kind ++ m5 in
    let m3 = n4 access ++ m4 in
    let m2 = some text display ++ m3 in
    let p8 = then_takes r7 (text path) r8 m8 r9 t8 (ends_taken r8 (common_of common) r9 t9) in
    let p7 = then_takes r6 (n4 error) r7 m7 r9 t7 p8 in
    let p6 = then_takes r5 (n4 start) r6 m6 r9 t6 p7 in
    let p5 = then_takes r4 (n4 kind) r5 m5 r9 t5 p6 in
    let p4 = then_takes r3 (n4 access) r4 m4 r9 t4 p5 in
    let p3 = then_takes r2 (some text display) r3 m3 r9 t3 p4 in
    let p2 = then_takes r1 (text name) r2 m2 r9 t2 p3 in
    subst (FieldsTaken R_CREATE_SERVICE_W bytes) (some_is (request.Create c, r9) x e9) (record {
      taken = then_takes bytes (n8 handle) r1 (text name ++ m2) r9 t1 p2;
      fit = record {
        handle = f1;
        name = f2;
        display = f3;
        access = f4;
        kind = f5;
        start = f6;
        error = f7;
        path = f8;
        group = f9.group;
        tag = f9.tag;
        needs = f9.needs;
        account = f9.account;
      };
      named = refl;
    }))))))))))

-- ## The other requests with fields of their own

set_security_takes : (bytes : List ℕ) (x : Request × List ℕ) → IsBytes bytes → set_security_at bytes ≡ Some x
    → FieldsTaken R_SET_SERVICE_OBJECT_SECURITY bytes x
unfolding set_security_at
set_security_takes bytes x fits e =
    step an_n8 _ bytes x fits e (λ handle r1 t1 f1 e1.
    step an_n4 _ r1 x t1.rest_fits e1 (λ parts r2 t2 f2 e2.
    step a_byte_list _ r2 x t2.rest_fits e2 (λ descriptor r3 t3 f3 e3.
    let m2 = joined (byte_list descriptor ∷ []) in
    let p2 = then_takes r1 (n4 parts) r2 m2 r3 t2 (ends_taken r2 (byte_list descriptor) r3 t3) in
    subst (FieldsTaken R_SET_SERVICE_OBJECT_SECURITY bytes) (some_is (request.SetSecurity handle parts descriptor, r3) x e3) (record {
      taken = then_takes bytes (n8 handle) r1 (n4 parts ++ m2) r3 t1 p2;
      fit = (f1, f2, f3);
      named = refl;
    }))))

set_status_takes : (bytes : List ℕ) (x : Request × List ℕ) → IsBytes bytes → set_status_at bytes ≡ Some x
    → FieldsTaken R_SET_SERVICE_STATUS bytes x
unfolding set_status_at
set_status_takes bytes x fits e =
    step an_n8 _ bytes x fits e (λ handle r1 t1 f1 e1.
    step a_status _ r1 x t1.rest_fits e1 (λ asked r2 t2 f2 e2.
    subst (FieldsTaken R_SET_SERVICE_STATUS bytes) (some_is (request.SetStatus handle asked, r2) x e2) (record {
      taken = then_takes bytes (n8 handle) r1 (status asked ++ []) r2 t1 (ends_taken r1 (status asked) r2 t2);
      fit = (f1, f2);
      named = refl;
    })))

enum_services_takes : (bytes : List ℕ) (x : Request × List ℕ) → IsBytes bytes → enum_services_at bytes ≡ Some x
    → FieldsTaken R_ENUM_SERVICES_STATUS_W bytes x
unfolding enum_services_at
enum_services_takes bytes x fits e =
    step an_n8 _ bytes x fits e (λ handle r1 t1 f1 e1.
    step an_n4 _ r1 x t1.rest_fits e1 (λ kinds r2 t2 f2 e2.
    step an_n4 _ r2 x t2.rest_fits e2 (λ states r3 t3 f3 e3.
    step an_n4 _ r3 x t3.rest_fits e3 (λ size r4 t4 f4 e4.
    step (maybe an_n4) _ r4 x t4.rest_fits e4 (λ resume r5 t5 f5 e5.
    let m4 = joined (some n4 resume ∷ []) in
    let m3 = n4 size ++ m4 in
    let m2 = n4 states ++ m3 in
    let p4 = then_takes r3 (n4 size) r4 m4 r5 t4 (ends_taken r4 (some n4 resume) r5 t5) in
    let p3 = then_takes r2 (n4 states) r3 m3 r5 t3 p4 in
    let p2 = then_takes r1 (n4 kinds) r2 m2 r5 t2 p3 in
    subst (FieldsTaken R_ENUM_SERVICES_STATUS_W bytes) (some_is (request.EnumServices handle kinds states size resume, r5) x e5) (record {
      taken = then_takes bytes (n8 handle) r1 (n4 kinds ++ m2) r5 t1 p2;
      fit = (f1, f2, f3, f4, f5);
      named = refl;
    }))))))

open_manager_takes : (bytes : List ℕ) (x : Request × List ℕ) → IsBytes bytes → open_manager_at bytes ≡ Some x
    → FieldsTaken R_OPEN_SC_MANAGER_W bytes x
unfolding open_manager_at
open_manager_takes bytes x fits e =
    step (maybe a_text) _ bytes x fits e (λ database r1 t1 f1 e1.
    step an_n4 _ r1 x t1.rest_fits e1 (λ access r2 t2 f2 e2.
    subst (FieldsTaken R_OPEN_SC_MANAGER_W bytes) (some_is (request.OpenManager database access, r2) x e2) (record {
      taken = then_takes bytes (some text database) r1 (n4 access ++ []) r2 t1 (ends_taken r1 (n4 access) r2 t2);
      fit = (f1, f2);
      named = refl;
    })))

start_takes : (bytes : List ℕ) (x : Request × List ℕ) → IsBytes bytes → start_at bytes ≡ Some x → FieldsTaken R_START_SERVICE_W bytes x
unfolding start_at
start_takes bytes x fits e =
    step an_n8 _ bytes x fits e (λ handle r1 t1 f1 e1.
    step (maybe (listed a_text)) _ r1 x t1.rest_fits e1 (λ words r2 t2 f2 e2.
    subst (FieldsTaken R_START_SERVICE_W bytes) (some_is (request.Start handle words, r2) x e2) (record {
      taken = then_takes bytes (n8 handle) r1 (some (list text) words ++ []) r2 t1 (ends_taken r1 (some (list text) words) r2 t2);
      fit = (f1, f2);
      named = refl;
    })))

change2_takes : (bytes : List ℕ) (x : Request × List ℕ) → IsBytes bytes → change2_at bytes ≡ Some x
    → FieldsTaken R_CHANGE_SERVICE_CONFIG2_W bytes x
unfolding change2_at
change2_takes bytes x fits e =
    step an_n8 _ bytes x fits e (λ handle r1 t1 f1 e1.
    step an_info _ r1 x t1.rest_fits e1 (λ asked r2 t2 f2 e2.
    subst (FieldsTaken R_CHANGE_SERVICE_CONFIG2_W bytes) (some_is (request.Change2 handle asked, r2) x e2) (record {
      taken = then_takes bytes (n8 handle) r1 (info_code asked ++ []) r2 t1 (ends_taken r1 (info_code asked) r2 t2);
      fit = (f1, f2);
      named = refl;
    })))

-- ## Requests of a handle, and of a name and numbers

-- a request has this opnum and these fields
record IsMade (op : ℕ) (code : List ℕ) (Fits : Type 0) (asked : Request) : Type 0 where
  named : op ≡ opnum asked
  fields_are : code ≡ fields asked
  fit : Fits → IsRequest asked

-- the request of a test, or of the tests after it
made_or : (op key : ℕ) (code : List ℕ) (Fits : Type 0) (asked r : Request) (others : Option Request) → opnum asked ≡ key
    → code ≡ fields asked → (Fits → IsRequest asked) → (others ≡ Some r → IsMade op code Fits r)
    → cond (op == key) (Some asked) others ≡ Some r → IsMade op code Fits r
made_or op key code Fits asked r others named same fit there e =
    choose (op == key) (Some asked) others (Some r) (λ b h. subst (IsMade op code Fits) (some_is asked r h) (record {
      named = eqb-true op key b ∙ sym named;
      fields_are = same;
      fit = fit;
    })) there e

handle_made : (op handle : ℕ) (r : Request) → by_handle op handle ≡ Some r → IsMade op (n8 handle) (Is8 handle) r
handle_made op handle r e =
    let code = n8 handle in
    let Fits = Is8 handle in
    made_or op R_CLOSE_SERVICE_HANDLE code Fits (request.Close handle) r _ refl refl (λ f. f)
    (made_or op R_DELETE_SERVICE code Fits (request.Delete handle) r _ refl refl (λ f. f)
    (made_or op R_LOCK_SERVICE_DATABASE code Fits (request.Lock handle) r _ refl refl (λ f. f)
    (made_or op R_QUERY_SERVICE_STATUS code Fits (request.QueryStatus handle) r _ refl refl (λ f. f)
    (made_or op R_UNLOCK_SERVICE_DATABASE code Fits (request.Unlock handle) r _ refl refl (λ f. f)
    (made_or op R_GET_NOTIFY_RESULTS code Fits (request.GetNotify handle) r _ refl refl (λ f. f)
    (made_or op R_CLOSE_NOTIFY_HANDLE code Fits (request.CloseNotify handle) r _ refl refl (λ f. f) (nothing_is r))))))) e

number_made : (op handle n : ℕ) (r : Request) → by_number op handle n ≡ Some r
    → IsMade op (joined (n8 handle ∷ n4 n ∷ [])) (Is8 handle × Is4 n) r
number_made op handle n r e =
    let code = joined (n8 handle ∷ n4 n ∷ []) in
    let Fits = Is8 handle × Is4 n in
    made_or op R_CONTROL_SERVICE code Fits (request.Control handle n) r _ refl refl (λ f. f)
    (made_or op R_QUERY_SERVICE_CONFIG_W code Fits (request.QueryConfig handle n) r _ refl refl (λ f. f)
    (made_or op R_QUERY_SERVICE_LOCK_STATUS_W code Fits (request.QueryLock handle n) r _ refl refl (λ f. f)
    (made_or op R_NOTIFY_SERVICE_STATUS_CHANGE code Fits (request.Notify handle n) r _ refl refl (λ f. f) (nothing_is r)))) e

numbers_made : (op handle n m : ℕ) (r : Request) → by_numbers op handle n m ≡ Some r
    → IsMade op (joined (n8 handle ∷ n4 n ∷ n4 m ∷ [])) (Is8 handle × Is4 n × Is4 m) r
numbers_made op handle n m r e =
    let code = joined (n8 handle ∷ n4 n ∷ n4 m ∷ []) in
    let Fits = Is8 handle × Is4 n × Is4 m in
    made_or op R_QUERY_SERVICE_OBJECT_SECURITY code Fits (request.QuerySecurity handle n m) r _ refl refl (λ f. f)
    (made_or op R_ENUM_DEPENDENT_SERVICES_W code Fits (request.EnumDependents handle n m) r _ refl refl (λ f. f)
    (made_or op R_QUERY_SERVICE_CONFIG2_W code Fits (request.QueryConfig2 handle n m) r _ refl refl (λ f. f)
    (made_or op R_QUERY_SERVICE_STATUS_EX code Fits (request.QueryStatusEx handle n m) r _ refl refl (λ f. f) (nothing_is r)))) e

name_made : (op handle : ℕ) (name : List ℕ) (n : ℕ) (r : Request) → by_name op handle name n ≡ Some r
    → IsMade op (joined (n8 handle ∷ text name ∷ n4 n ∷ [])) (Is8 handle × IsText name × Is4 n) r
name_made op handle name n r e =
    let code = joined (n8 handle ∷ text name ∷ n4 n ∷ []) in
    let Fits = Is8 handle × IsText name × Is4 n in
    made_or op R_OPEN_SERVICE_W code Fits (request.OpenService handle name n) r _ refl refl (λ f. f)
    (made_or op R_GET_SERVICE_DISPLAY_NAME_W code Fits (request.DisplayName handle name n) r _ refl refl (λ f. f)
    (made_or op R_GET_SERVICE_KEY_NAME_W code Fits (request.KeyName handle name n) r _ refl refl (λ f. f) (nothing_is r))) e

-- the fields that were read are those of the request that was made of them
made_taken : (op : ℕ) (bytes code rest : List ℕ) (Fits : Type 0) (made : Option Request) (x : Request × List ℕ) → Takes bytes code rest
    → Fits → ((r : Request) → made ≡ Some r → IsMade op code Fits r) → (made >>= λ r. Some (r, rest)) ≡ Some x → FieldsTaken op bytes x
made_taken op bytes code rest Fits None x taken fits is e = nothing_is x e
made_taken op bytes code rest Fits (Some r) x taken fits is e =
    let m = is r refl in
    subst (FieldsTaken op bytes) (some_is (r, rest) x e) (record {
      taken = subst (λ (c : List ℕ). Takes bytes c rest) m.fields_are taken;
      fit = m.fit fits;
      named = m.named;
    })

handle_takes : (op : ℕ) (bytes : List ℕ) (x : Request × List ℕ) → IsBytes bytes → handle_at op bytes ≡ Some x → FieldsTaken op bytes x
unfolding handle_at
handle_takes op bytes x fits e =
    step an_n8 _ bytes x fits e (λ handle r1 t1 f1 e1.
    made_taken op bytes (n8 handle) r1 (Is8 handle) (by_handle op handle) x t1 f1 (handle_made op handle) e1)

number_takes : (op : ℕ) (bytes : List ℕ) (x : Request × List ℕ) → IsBytes bytes → number_at op bytes ≡ Some x → FieldsTaken op bytes x
unfolding number_at
number_takes op bytes x fits e =
    step an_n8 _ bytes x fits e (λ handle r1 t1 f1 e1.
    step an_n4 _ r1 x t1.rest_fits e1 (λ n r2 t2 f2 e2.
    let taken = then_takes bytes (n8 handle) r1 (n4 n ++ []) r2 t1 (ends_taken r1 (n4 n) r2 t2) in
    made_taken op bytes (joined (n8 handle ∷ n4 n ∷ [])) r2 (Is8 handle × Is4 n) (by_number op handle n) x taken (f1, f2)
    (number_made op handle n) e2))

numbers_takes : (op : ℕ) (bytes : List ℕ) (x : Request × List ℕ) → IsBytes bytes → numbers_at op bytes ≡ Some x → FieldsTaken op bytes x
unfolding numbers_at
numbers_takes op bytes x fits e =
    step an_n8 _ bytes x fits e (λ handle r1 t1 f1 e1.
    step an_n4 _ r1 x t1.rest_fits e1 (λ n r2 t2 f2 e2.
    step an_n4 _ r2 x t2.rest_fits e2 (λ m r3 t3 f3 e3.
    let m2 = joined (n4 m ∷ []) in
    let p2 = then_takes r1 (n4 n) r2 m2 r3 t2 (ends_taken r2 (n4 m) r3 t3) in
    let taken = then_takes bytes (n8 handle) r1 (n4 n ++ m2) r3 t1 p2 in
    made_taken op bytes (joined (n8 handle ∷ n4 n ∷ n4 m ∷ [])) r3 (Is8 handle × Is4 n × Is4 m) (by_numbers op handle n m) x taken
    (f1, f2, f3) (numbers_made op handle n m) e3)))

named_takes : (op : ℕ) (bytes : List ℕ) (x : Request × List ℕ) → IsBytes bytes → named_at op bytes ≡ Some x → FieldsTaken op bytes x
unfolding named_at
named_takes op bytes x fits e =
    step an_n8 _ bytes x fits e (λ handle r1 t1 f1 e1.
    step a_text _ r1 x t1.rest_fits e1 (λ name r2 t2 f2 e2.
    step an_n4 _ r2 x t2.rest_fits e2 (λ n r3 t3 f3 e3.
    let m2 = joined (n4 n ∷ []) in
    let p2 = then_takes r1 (text name) r2 m2 r3 t2 (ends_taken r2 (n4 n) r3 t3) in
    let taken = then_takes bytes (n8 handle) r1 (text name ++ m2) r3 t1 p2 in
    made_taken op bytes (joined (n8 handle ∷ text name ∷ n4 n ∷ [])) r3 (Is8 handle × IsText name × Is4 n) (by_name op handle name n) x
    taken (f1, f2, f3) (name_made op handle name n) e3)))

-- ## All of them

plain_takes : (op : ℕ) (bytes : List ℕ) (x : Request × List ℕ) → IsBytes bytes → plain_fields_at op bytes ≡ Some x
    → FieldsTaken op bytes x
plain_takes op bytes x fits e =
    choose (is_named op) _ _ (Some x) (λ b h. named_takes op bytes x fits h) (λ e1.
    choose (has_number op) _ _ (Some x) (λ b h. number_takes op bytes x fits h) (λ e2.
    choose (has_numbers op) _ _ (Some x) (λ b h. numbers_takes op bytes x fits h) (λ e3. handle_takes op bytes x fits e3) e2) e1) e

-- fields of an opnum that is known
of_opnum : (op key : ℕ) (bytes : List ℕ) (x : Request × List ℕ) → (op == key) ≡ true → FieldsTaken key bytes x → FieldsTaken op bytes x
of_opnum op key bytes x b taken = subst (λ (k : ℕ). FieldsTaken k bytes x) (sym (eqb-true op key b)) taken

fields_takes : (op : ℕ) (bytes : List ℕ) (x : Request × List ℕ) → IsBytes bytes → fields_at op bytes ≡ Some x → FieldsTaken op bytes x
fields_takes op bytes x fits e =
    choose (op == R_SET_SERVICE_OBJECT_SECURITY) _ _ (Some x) (λ b h.
    of_opnum op R_SET_SERVICE_OBJECT_SECURITY bytes x b (set_security_takes bytes x fits h)) (λ e1.
    choose (op == R_SET_SERVICE_STATUS) _ _ (Some x) (λ b h.
    of_opnum op R_SET_SERVICE_STATUS bytes x b (set_status_takes bytes x fits h)) (λ e2.
    choose (op == R_CHANGE_SERVICE_CONFIG_W) _ _ (Some x) (λ b h.
    of_opnum op R_CHANGE_SERVICE_CONFIG_W bytes x b (change_takes bytes x fits h)) (λ e3.
    choose (op == R_CREATE_SERVICE_W) _ _ (Some x) (λ b h.
    of_opnum op R_CREATE_SERVICE_W bytes x b (create_takes bytes x fits h)) (λ e4.
    choose (op == R_ENUM_SERVICES_STATUS_W) _ _ (Some x) (λ b h.
    of_opnum op R_ENUM_SERVICES_STATUS_W bytes x b (enum_services_takes bytes x fits h)) (λ e5.
    choose (op == R_OPEN_SC_MANAGER_W) _ _ (Some x) (λ b h.
    of_opnum op R_OPEN_SC_MANAGER_W bytes x b (open_manager_takes bytes x fits h)) (λ e6.
    choose (op == R_START_SERVICE_W) _ _ (Some x) (λ b h.
    of_opnum op R_START_SERVICE_W bytes x b (start_takes bytes x fits h)) (λ e7.
    choose (op == R_CHANGE_SERVICE_CONFIG2_W) _ _ (Some x) (λ b h.
    of_opnum op R_CHANGE_SERVICE_CONFIG2_W bytes x b (change2_takes bytes x fits h))
    (λ e8. plain_takes op bytes x fits e8) e7) e6) e5) e4) e3) e2) e1) e

request_takes : (bytes : List ℕ) (x : Request × List ℕ) → IsBytes bytes → request_at bytes ≡ Some x
    → Takes bytes (request_code x.0) x.1 × IsRequest x.0
unfolding request_at
request_takes bytes x fits e =
    step an_n2 _ bytes x fits e (λ op r1 t1 f1 e1.
    let f = fields_takes op r1 x t1.rest_fits e1 in
    let t : Takes bytes (n2 (opnum x.0)) r1 = subst (λ (k : ℕ). Takes bytes (n2 k) r1) f.named t1 in
    (then_takes bytes (n2 (opnum x.0)) r1 (fields x.0) x.1 t f.taken, f.fit))

pub a_request : IsTaken Request request_at request_code IsRequest
a_request = record { takes = request_takes }
