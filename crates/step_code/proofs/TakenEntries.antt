-- What is read of an entry is what was written.
use Rattle.std.proofs.Common.{◌≡◌, ℕ, true, cond, ◌==◌, List, [], ◌∷◌, ◌++◌, Option, None, Some}
use Rattle.std.proofs.Common.{Result, Ok, Err, IfOk, IfSome, option_map, refl, sym, subst}
use Rattle.std.proofs.lemmas.Bool.{eqb-true}
use Rattle.scm_model.specs.Entries.{Entry}
use Rattle.scm_model.specs.declared.flat.Principal.{Principal}
use Rattle.scm_model.specs.declared.flat.Principal.TheVariants as principals
use Rattle.scm_model.specs.declared.steps.Kept.{Kept}
use Rattle.scm_model.specs.declared.steps.Kept.TheVariants as keeps
use Rattle.scm_model.specs.declared.steps.Step.{Step}
use Rattle.scm_model.specs.declared.steps.Step.TheVariants as steps
use Rattle.step_code.specs.Codes.{n4, n8, joined, status, subtype, request_code, principal, appended, step_code, code_of}
use Rattle.step_code.specs.Fits.{Is8, HasCode, IsEntry}
use Rattle.step_code.specs.Reading.{◌>>=◌, principal_of, kept_of, joined_at, kept_at, call_at, end_start_at, launched_at, launch_failed_at}
use Rattle.step_code.specs.Reading.{report_at, raised_at, step_of, numbered_at, step_by, step_at, entry_at}
use Rattle.step_code.proofs.Fields.{IsAny}
use Rattle.step_code.proofs.Entries.{kept_code}
use Rattle.step_code.proofs.Taken.{IsBytes, Takes, IsTaken, some_is, then_takes, ends_taken, step, an_n4, an_n8, a_byte, a_status}
use Rattle.step_code.proofs.Taken.{a_subtype, one}
use Rattle.step_code.proofs.TakenRequests.{choose, nothing_is, a_request}

abbrev StepTaken : List ℕ → Step × List ℕ → Type 0
StepTaken bytes x = Takes bytes (step_code x.0) x.1 × HasCode x.0

-- after the byte of a step
abbrev After : ℕ → List ℕ → List ℕ → Type 0
After kind bytes rest = Takes bytes (one kind) rest

principal_is : (byte : ℕ) (p : Principal) → principal_of byte ≡ Some p → byte ≡ principal p
principal_is byte p e =
    choose (byte == 0) _ _ (Some p) (λ b h. subst (λ (q : Principal). byte ≡ principal q) (some_is principals.Admin p h)
    (eqb-true byte 0 b)) (λ e1.
    choose (byte == 1) _ _ (Some p) (λ b h. subst (λ (q : Principal). byte ≡ principal q) (some_is principals.User p h)
    (eqb-true byte 1 b)) (nothing_is p) e1) e

kept_is : (byte : ℕ) (k : Kept) → kept_of byte ≡ Some k → byte ≡ appended k
kept_is byte k e =
    choose (byte == 0) _ _ (Some k) (λ b h. subst (λ (q : Kept). byte ≡ appended q) (some_is keeps.NotAsked k h)
    (eqb-true byte 0 b)) (λ e1.
    choose (byte == 1) _ _ (Some k) (λ b h. subst (λ (q : Kept). byte ≡ appended q) (some_is keeps.Kept k h)
    (eqb-true byte 1 b)) (λ e2.
    choose (byte == 2) _ _ (Some k) (λ b h. subst (λ (q : Kept). byte ≡ appended q) (some_is keeps.Failed k h)
    (eqb-true byte 2 b)) (nothing_is k) e2) e1) e

joined_made : (bytes r0 r1 : List ℕ) (byte : ℕ) (made : Option Principal) (x : Step × List ℕ) → After 0 bytes r0
    → Takes r0 (one byte) r1 → ((p : Principal) → made ≡ Some p → byte ≡ principal p)
    → (made >>= λ p. Some (steps.Joined p, r1)) ≡ Some x → StepTaken bytes x
joined_made bytes r0 r1 byte None x t0 t1 is e = nothing_is x e
joined_made bytes r0 r1 byte (Some p) x t0 t1 is e =
    subst (StepTaken bytes) (some_is (steps.Joined p, r1) x e)
    (then_takes bytes (one 0) r0 (one (principal p)) r1 t0 (subst (λ (b : ℕ). Takes r0 (one b) r1) (is p refl) t1), tt)

joined_takes : (bytes r0 : List ℕ) (x : Step × List ℕ) → After 0 bytes r0 → joined_at r0 ≡ Some x → StepTaken bytes x
unfolding joined_at
joined_takes bytes r0 x t0 e =
    step a_byte _ r0 x t0.rest_fits e (λ byte r1 t1 _ e1. joined_made bytes r0 r1 byte (principal_of byte) x t0 t1 (principal_is byte) e1)

kept_made : (bytes r1 : List ℕ) (byte : ℕ) (made : Option Kept) (x : Kept × List ℕ) → Takes bytes (one byte) r1
    → ((k : Kept) → made ≡ Some k → byte ≡ appended k) → (made >>= λ k. Some (k, r1)) ≡ Some x
    → Takes bytes (kept_code x.0) x.1 × IsAny x.0
kept_made bytes r1 byte None x t1 is e = nothing_is x e
kept_made bytes r1 byte (Some k) x t1 is e =
    subst (λ (y : Kept × List ℕ). Takes bytes (kept_code y.0) y.1 × IsAny y.0) (some_is (k, r1) x e)
    (subst (λ (b : ℕ). Takes bytes (one b) r1) (is k refl) t1, tt)

kept_takes : (bytes : List ℕ) (x : Kept × List ℕ) → IsBytes bytes → kept_at bytes ≡ Some x → Takes bytes (kept_code x.0) x.1 × IsAny x.0
unfolding kept_at
kept_takes bytes x fits e =
    step a_byte _ bytes x fits e (λ byte r1 t1 _ e1. kept_made bytes r1 byte (kept_of byte) x t1 (kept_is byte) e1)

a_kept : IsTaken Kept kept_at kept_code IsAny
a_kept = record { takes = kept_takes }

call_takes : (bytes r0 : List ℕ) (x : Step × List ℕ) → After 1 bytes r0 → call_at r0 ≡ Some x → StepTaken bytes x
unfolding call_at
call_takes bytes r0 x t0 e =
    step an_n8 _ r0 x t0.rest_fits e (λ caller r1 t1 f1 e1.
    step a_request _ r1 x t1.rest_fits e1 (λ asked r2 t2 f2 e2.
    step a_kept _ r2 x t2.rest_fits e2 (λ append r3 t3 f3 e3.
    let m2 = joined (kept_code append ∷ []) in
    let p2 = then_takes r1 (request_code asked) r2 m2 r3 t2 (ends_taken r2 (kept_code append) r3 t3) in
    let p1 = then_takes r0 (n8 caller) r1 (request_code asked ++ m2) r3 t1 p2 in
    subst (StepTaken bytes) (some_is (steps.Call caller asked append, r3) x e3)
    (then_takes bytes (one 1) r0 (n8 caller ++ (request_code asked ++ m2)) r3 t0 p1, (f1, f2)))))

end_start_takes : (bytes r0 : List ℕ) (x : Step × List ℕ) → After 2 bytes r0 → end_start_at r0 ≡ Some x → StepTaken bytes x
unfolding end_start_at
end_start_takes bytes r0 x t0 e =
    step an_n8 _ r0 x t0.rest_fits e (λ caller r1 t1 f1 e1.
    step an_n8 _ r1 x t1.rest_fits e1 (λ plan r2 t2 f2 e2.
    let m1 = joined (n8 plan ∷ []) in
    let p1 = then_takes r0 (n8 caller) r1 m1 r2 t1 (ends_taken r1 (n8 plan) r2 t2) in
    subst (StepTaken bytes) (some_is (steps.EndStart caller plan, r2) x e2)
    (then_takes bytes (one 2) r0 (n8 caller ++ m1) r2 t0 p1, (f1, f2))))

launched_takes : (bytes r0 : List ℕ) (x : Step × List ℕ) → After 4 bytes r0 → launched_at r0 ≡ Some x → StepTaken bytes x
unfolding launched_at
launched_takes bytes r0 x t0 e =
    step an_n8 _ r0 x t0.rest_fits e (λ process r1 t1 f1 e1.
    step an_n4 _ r1 x t1.rest_fits e1 (λ pid r2 t2 f2 e2.
    let m1 = joined (n4 pid ∷ []) in
    let p1 = then_takes r0 (n8 process) r1 m1 r2 t1 (ends_taken r1 (n4 pid) r2 t2) in
    subst (StepTaken bytes) (some_is (steps.Launched process pid, r2) x e2)
    (then_takes bytes (one 4) r0 (n8 process ++ m1) r2 t0 p1, (f1, f2))))

launch_failed_takes : (bytes r0 : List ℕ) (x : Step × List ℕ) → After 5 bytes r0 → launch_failed_at r0 ≡ Some x → StepTaken bytes x
unfolding launch_failed_at
launch_failed_takes bytes r0 x t0 e =
    step an_n8 _ r0 x t0.rest_fits e (λ process r1 t1 f1 e1.
    step an_n4 _ r1 x t1.rest_fits e1 (λ code r2 t2 f2 e2.
    let m1 = joined (n4 code ∷ []) in
    let p1 = then_takes r0 (n8 process) r1 m1 r2 t1 (ends_taken r1 (n4 code) r2 t2) in
    subst (StepTaken bytes) (some_is (steps.LaunchFailed process code, r2) x e2)
    (then_takes bytes (one 5) r0 (n8 process ++ m1) r2 t0 p1, (f1, f2))))

report_takes : (bytes r0 : List ℕ) (x : Step × List ℕ) → After 6 bytes r0 → report_at r0 ≡ Some x → StepTaken bytes x
unfolding report_at
report_takes bytes r0 x t0 e =
    step an_n8 _ r0 x t0.rest_fits e (λ process r1 t1 f1 e1.
    step an_n8 _ r1 x t1.rest_fits e1 (λ service r2 t2 f2 e2.
    step a_status _ r2 x t2.rest_fits e2 (λ reported r3 t3 f3 e3.
    let m2 = joined (status reported ∷ []) in
    let p2 = then_takes r1 (n8 service) r2 m2 r3 t2 (ends_taken r2 (status reported) r3 t3) in
    let p1 = then_takes r0 (n8 process) r1 (n8 service ++ m2) r3 t1 p2 in
    subst (StepTaken bytes) (some_is (steps.Report process service reported, r3) x e3)
    (then_takes bytes (one 6) r0 (n8 process ++ (n8 service ++ m2)) r3 t0 p1, (f1, f2, f3)))))

raised_takes : (bytes r0 : List ℕ) (x : Step × List ℕ) → After 10 bytes r0 → raised_at r0 ≡ Some x → StepTaken bytes x
unfolding raised_at
raised_takes bytes r0 x t0 e =
    step an_n8 _ r0 x t0.rest_fits e (λ caller r1 t1 f1 e1.
    step a_subtype _ r1 x t1.rest_fits e1 (λ id r2 t2 f2 e2.
    let m1 = joined (subtype id ∷ []) in
    let p1 = then_takes r0 (n8 caller) r1 m1 r2 t1 (ends_taken r1 (subtype id) r2 t2) in
    subst (StepTaken bytes) (some_is (steps.Raised caller id, r2) x e2)
    (then_takes bytes (one 10) r0 (n8 caller ++ m1) r2 t0 p1, (f1, f2))))

-- a step of a number alone
record IsNumbered (kind number : ℕ) (made : Step) : Type 0 where
  code_is : one kind ++ n8 number ≡ step_code made
  fit : Is8 number → HasCode made

numbered_or : (kind key number : ℕ) (made s : Step) (others : Option Step) → one key ++ n8 number ≡ step_code made
    → (Is8 number → HasCode made) → (others ≡ Some s → IsNumbered kind number s)
    → cond (kind == key) (Some made) others ≡ Some s → IsNumbered kind number s
numbered_or kind key number made s others code_is fit there e =
    choose (kind == key) (Some made) others (Some s) (λ b h. subst (IsNumbered kind number) (some_is made s h) (record {
      code_is = subst (λ (k : ℕ). one k ++ n8 number ≡ step_code made) (sym (eqb-true kind key b)) code_is;
      fit = fit;
    })) there e

step_is : (kind number : ℕ) (s : Step) → step_of kind number ≡ Some s → IsNumbered kind number s
step_is kind number s e =
    numbered_or kind 7 number (steps.Ended number) s _ refl (λ f. f)
    (numbered_or kind 8 number (steps.ControlTaken number) s _ refl (λ f. f)
    (numbered_or kind 11 number (steps.Gone number) s _ refl (λ f. f)
    (numbered_or kind 12 number (steps.NoMemory number) s _ refl (λ f. f) (nothing_is s)))) e

numbered_made : (kind number : ℕ) (bytes rest : List ℕ) (made : Option Step) (x : Step × List ℕ) → Takes bytes (one kind ++ n8 number) rest
    → Is8 number → ((s : Step) → made ≡ Some s → IsNumbered kind number s) → (made >>= λ s. Some (s, rest)) ≡ Some x → StepTaken bytes x
numbered_made kind number bytes rest None x taken fits is e = nothing_is x e
numbered_made kind number bytes rest (Some s) x taken fits is e =
    let m = is s refl in
    subst (StepTaken bytes) (some_is (s, rest) x e)
    (subst (λ (code : List ℕ). Takes bytes code rest) m.code_is taken, m.fit fits)

numbered_takes : (kind : ℕ) (bytes r0 : List ℕ) (x : Step × List ℕ) → After kind bytes r0 → numbered_at kind r0 ≡ Some x → StepTaken bytes x
unfolding numbered_at
numbered_takes kind bytes r0 x t0 e =
    step an_n8 _ r0 x t0.rest_fits e (λ number r1 t1 f1 e1.
    numbered_made kind number bytes r1 (step_of kind number) x
    (then_takes bytes (one kind) r0 (n8 number) r1 t0 t1) f1 (step_is kind number) e1)

after_key : (kind key : ℕ) (bytes r0 : List ℕ) → (kind == key) ≡ true → After kind bytes r0 → After key bytes r0
after_key kind key bytes r0 b t0 = subst (λ (k : ℕ). After k bytes r0) (eqb-true kind key b) t0

-- a step that its byte alone names
alone_takes : (key : ℕ) (bytes r0 : List ℕ) (made : Step) (x : Step × List ℕ) → one key ≡ step_code made → HasCode made → After key bytes r0
    → Some (made, r0) ≡ Some x → StepTaken bytes x
alone_takes key bytes r0 made x code_is fit t0 e =
    subst (StepTaken bytes) (some_is (made, r0) x e) (subst (λ (code : List ℕ). Takes bytes code r0) code_is t0, fit)

step_made : (kind : ℕ) (bytes r0 : List ℕ) (x : Step × List ℕ) → After kind bytes r0 → step_by kind r0 ≡ Some x → StepTaken bytes x
step_made kind bytes r0 x t0 e =
    choose (kind == 0) _ _ (Some x) (λ b h. joined_takes bytes r0 x (after_key kind 0 bytes r0 b t0) h) (λ e1.
    choose (kind == 1) _ _ (Some x) (λ b h. call_takes bytes r0 x (after_key kind 1 bytes r0 b t0) h) (λ e2.
    choose (kind == 2) _ _ (Some x) (λ b h. end_start_takes bytes r0 x (after_key kind 2 bytes r0 b t0) h) (λ e3.
    choose (kind == 3) _ _ (Some x) (λ b h. alone_takes 3 bytes r0 steps.LaunchTaken x refl tt (after_key kind 3 bytes r0 b t0) h) (λ e4.
    choose (kind == 4) _ _ (Some x) (λ b h. launched_takes bytes r0 x (after_key kind 4 bytes r0 b t0) h) (λ e5.
    choose (kind == 5) _ _ (Some x) (λ b h. launch_failed_takes bytes r0 x (after_key kind 5 bytes r0 b t0) h) (λ e6.
    choose (kind == 6) _ _ (Some x) (λ b h. report_takes bytes r0 x (after_key kind 6 bytes r0 b t0) h) (λ e7.
    choose (kind == 9) _ _ (Some x) (λ b h. alone_takes 9 bytes r0 steps.Tick x refl tt (after_key kind 9 bytes r0 b t0) h) (λ e8.
    choose (kind == 10) _ _ (Some x) (λ b h. raised_takes bytes r0 x (after_key kind 10 bytes r0 b t0) h)
    (λ e9. numbered_takes kind bytes r0 x t0 e9) e8) e7) e6) e5) e4) e3) e2) e1) e

step_takes : (bytes : List ℕ) (x : Step × List ℕ) → IsBytes bytes → step_at bytes ≡ Some x → Takes bytes (step_code x.0) x.1 × HasCode x.0
unfolding step_at
step_takes bytes x fits e = step a_byte _ bytes x fits e (λ kind r0 t0 _ e0. step_made kind bytes r0 x t0 e0)

a_step : IsTaken Step step_at step_code HasCode
a_step = record { takes = step_takes }

-- what was read as an entry is its code, and what comes after it
pub entry_taken : (bytes : List ℕ) (entry : Entry) (rest : List ℕ) → IsBytes bytes → entry_at bytes ≡ Some (entry, rest)
    → (bytes ≡ code_of entry ++ rest) × IsEntry entry
unfolding entry_at
entry_taken bytes entry rest fits e =
    step an_n8 _ bytes (entry, rest) fits e (λ moment r1 t1 f1 e1.
    step a_step _ r1 (entry, rest) t1.rest_fits e1 (λ s r2 t2 f2 e2.
    let made : Entry × List ℕ = ((moment, s), r2) in
    subst (λ (y : Entry × List ℕ). (bytes ≡ code_of y.0 ++ y.1) × IsEntry y.0) (some_is made (entry, rest) e2)
    ((then_takes bytes (n8 moment) r1 (step_code s) r2 t1 t2).parts, (f1, f2))))

-- the same of what a function returned
pub found_of : {R E : Type 0} (view : R → Entry × List ℕ) (result : Result (Option R) E) (bytes : List ℕ) → IsBytes bytes
    → IfOk result (λ read. option_map view read ≡ entry_at bytes)
    → IfOk result (λ read. IfSome read (λ e. (bytes ≡ code_of (view e).0 ++ (view e).1) × IsEntry (view e).0))
found_of view (Ok (Some e)) bytes fits is = entry_taken bytes (view e).0 (view e).1 fits (sym is)
found_of view (Ok None) bytes fits is = tt
found_of view (Err f) bytes fits is = tt
