-- The services are created.
use Rattle.std.proofs.Common.{eqb, ℕ, zero, suc, ◌≡◌, ◌∙◌, ◌+◌, ◌/◌, ◌<◌, ◌≤◌, ◌^◌, ◌==◌, ◌||◌, ◌&&◌, true, false, cond, List, [], ◌∷◌}
use Rattle.std.proofs.Common.{◌++◌, None, Some, filter, length, ap, sym, refl, arith, ne_eqb}
use Rattle.std.specs.Prelude.{is_none, is_some, option_and_then, nat_le}
use Rattle.std.proofs.lemmas.Bool.{or_from, lt-leb, lt-ltb}
use Rattle.scm_text.specs.Fold.{same_text}
use Rattle.scm_text.specs.Numbers.{has}
use Rattle.scm_model.specs.declared.flat.Config.{Config}
use Rattle.scm_model.specs.declared.flat.Flat.{Flat}
use Rattle.scm_model.specs.declared.flat.HandleKind.TheVariants as kinds
use Rattle.scm_model.specs.declared.flat.HandleRow.{HandleRow}
use Rattle.scm_model.specs.declared.flat.Limits.{Limits}
use Rattle.scm_model.specs.declared.flat.NeedRow.{NeedRow}
use Rattle.scm_model.specs.declared.flat.Service.{Service}
use Rattle.scm_model.specs.declared.calls.Reply.TheVariants as reply
use Rattle.scm_model.specs.declared.calls.Reply.{Reply}
use Rattle.scm_model.specs.declared.calls.Request.{Request}
use Rattle.scm_model.specs.declared.calls.Request.TheVariants as request
use Rattle.scm_model.specs.declared.steps.Answer.TheVariants as answer
use Rattle.scm_model.specs.declared.steps.Kept.TheVariants as appended
use Rattle.scm_model.specs.declared.steps.Step.TheVariants.{Call, Joined}
use Rattle.scm_model.specs.declared.flat.Principal.TheVariants.{Admin}
use Rattle.scm_model.specs.Changes.{new_service}
use Rattle.scm_model.specs.Needs.{numbers_of, with_row}
use Rattle.scm_model.specs.Order.{is_cyclic}
use Rattle.scm_model.specs.Refused.{Refusals, first_refusal}
use Rattle.scm_model.specs.Rows.{held_by, is_shown, manager_mask, mask_of_manager, named}
use Rattle.dependency_index.proofs.Once.{push_is}
use Rattle.service_record.specs.Checks.{check_new}
use Rattle.scm_rules.specs.Create.{create_change, create_refusals, create_verdict, created_config, new_status}
use Rattle.scm_rules.specs.Delete.{is_marked}
use Rattle.scm_rules.specs.Needs.{makes_cycle, need_row_of, need_rows}
use Rattle.scm_rules.specs.OpenManager.{open_manager_refusals, open_manager_verdict}
use Rattle.scm_rules.specs.OpenService.{service_granted}
use Rattle.scm_rules.specs.Opening.{opening}
use Rattle.scm_rules.specs.Rights.{manager_lacks}
use Rattle.scm_rules.specs.Verdicts.{done_of, tells_right, unless_refused}
use Rattle.scm_generate.specs.Listed.{call_now, at_once, creation_of, creations, nth_name, nth_service, opening_calls}
use Rattle.scm_generate.proofs.Built.{Each, any_built, map_built, filter_built, find_base, length_built, none_built}
use Rattle.scm_generate.proofs.Goes.{Goes, all_stay, called_well, goes_both, goes_none, goes_on, goes_one, stepped}
use Rattle.scm_generate.proofs.Graph.{not_cyclic}
use Rattle.scm_generate.proofs.Names.{config_at, config_good, needs_are, needs_readable, other_names}
use Rattle.scm_generate.proofs.Shape.{Live, first_handle, graph, graph_is, handle_at, handles_to, need_row_at, resting, row_at, rows}

-- where each test fails, nothing refuses
abbrev pub AllFail : Refusals → Type 0
AllFail [] = Unit {0}
AllFail (row ∷ rows) = (row.0 ≡ false) × AllFail rows

pub all_pass : (rows : Refusals) → AllFail rows → first_refusal rows ≡ 0
all_pass [] h = refl
all_pass (row ∷ rows) h = ap (λ b. cond b row.1 (first_refusal rows)) h.0 ∙ all_pass rows h.1

-- room for so many services, and for the processes of a start
pub record IsWide (l : Limits) (n : ℕ) : Type 0 where
  pub small : n < 2 ^ 32
  pub services : n ≤ l.services
  pub handles : n + 1 ≤ l.handles
  pub callers : 1 ≤ l.callers

-- a service that never ran
abbrev pub fresh : ℕ → Live
fresh k = record { status = new_status 0x10; process = 0 }

abbrev pub created : ℕ → Flat
created n = resting n fresh 1 1 1

module _ (l : Limits) (n : ℕ) (wide : IsWide l (suc n)) where
  less : suc n < 2 ^ 64
  less = let s = wide.small in omega (arith, s)

  half_less : suc n / 2 < 2 ^ 64
  half_less = let s = less in omega (arith, s)

  config_is : created_config (created n) (nth_service (suc n)) ≡ config_at (suc n)
  config_is = ap (λ ns. record (config_at (suc n)) { needs = ns }) (needs_are (suc n / 2) half_less)

  apart : (k : ℕ) → k ≤ n → (k == suc n) ≡ false
  apart k le = ne_eqb k (suc n) (λ e. omega (arith, e, le))

  other : Each (λ k. same_text (nth_name k) (nth_name (suc n)) ≡ false) n
  other k some le = other_names k (suc n) (let s = less in omega (arith, s, le)) less (apart k le)

  unnamed : named (created n) (nth_name (suc n)) ≡ None
  unnamed = none_built (λ (row : Service). same_text row.config.name (nth_name (suc n))) [] (λ k. row_at k (fresh k)) n refl other

  unshown : is_shown (created n) (nth_name (suc n)) ≡ false
  unshown =
      any_built (λ (row : Service). same_text row.config.name (nth_name (suc n)) || same_text row.config.display (nth_name (suc n))) []
      (λ k. row_at k (fresh k)) n refl
      (λ k some le. or_from (same_text (nth_name k) (nth_name (suc n))) (same_text (nth_name k) (nth_name (suc n))) (other k some le)
      (other k some le))

  not_there : has (numbers_of (graph n)) (suc n) ≡ false
  not_there =
      ap (λ (ns : List ℕ). has ns (suc n)) (map_built (λ (row : NeedRow). row.number) [] need_row_at [] (λ k. k) n refl (λ k some le. refl))
      ∙ any_built (eqb (suc n)) [] (λ k. k) n refl (λ k some le. ne_eqb (suc n) k (λ e. omega (arith, e, le)))

  free : makes_cycle (created n) (n + 1) (config_at (suc n)) ≡ false
  free =
      let next : n + 1 ≡ suc n = omega arith in
      ap (λ m. is_cyclic (with_row (need_rows (rows fresh n)) (need_row_of m (config_at (suc n))))) next
      ∙ ap (λ g. is_cyclic (with_row g (need_row_at (suc n)))) (graph_is fresh n)
      ∙ ap is_cyclic (sym (push_is (graph n) (need_row_at (suc n)) not_there))
      ∙ not_cyclic (suc n) less

  mask_is : manager_mask (created n) 1 1 ≡ Some 0xF003F
  mask_is = ap (option_and_then mask_of_manager) (find_base (λ (row : HandleRow). row.caller == 1 && row.number == 1)
      (first_handle ∷ []) handle_at first_handle n refl)

  room : (nat_le l.services (length (rows fresh n)) || nat_le l.handles (held_by (created n) 1)) ≡ false
  room =
      let long = length_built [] (λ k. row_at k (fresh k)) n in
      let mine : filter (λ (row : HandleRow). row.caller == 1) (handles_to n) ≡ handles_to n =
      filter_built (λ (row : HandleRow). row.caller == 1) (first_handle ∷ []) handle_at n refl (λ k some le. refl) in
      let held : held_by (created n) 1 ≡ 1 + n = ap length mine ∙ length_built (first_handle ∷ []) handle_at n in
      let s = wide.services in
      let h = wide.handles in
      or_from (nat_le l.services (length (rows fresh n))) (nat_le l.handles (held_by (created n) 1))
      (lt-leb l.services (length (rows fresh n)) (omega (arith, long, s)))
      (lt-leb l.handles (held_by (created n) 1) (omega (arith, held, h)))

  good : check_new (created_config (created n) (nth_service (suc n))) None ≡ 0
  good = ap (λ c. check_new c None) config_is ∙ config_good (suc n) less

  verdict_is : create_verdict l (created n) 1 (nth_service (suc n)) appended.Kept ≡ 0
  verdict_is = all_pass (create_refusals l (created n) 1 (nth_service (suc n)) appended.Kept) (
    ap is_none mask_is,
    (
      ap (λ o. manager_lacks o 2 || is_none (service_granted (created n) 1 0xF01FF)) mask_is,
      (
        ap (λ v. v == 123) good,
        (
          or_from (check_new (created_config (created n) (nth_service (suc n))) None == 87 || false) _ (ap (λ v. v == 87 || false) good)
              (needs_readable (suc n / 2) half_less),
          (
            ap (λ v. v == 1057) good,
            (
              ap is_marked unnamed,
              (
                ap is_some unnamed,
                (
                  unshown,
                  (
                    ap (λ c. makes_cycle (created n) (n + 1) c) config_is ∙ free,
                    (
                      room,
                      (
                        refl,
                        tt,
                      ),
                    ),
                  ),
                ),
              ),
            ),
          ),
        ),
      ),
    ),
  )

  abbrev new : Request
  new = request.Create (nth_service (suc n))

  abbrev told : Reply
  told = (done_of l (created n) 1 new).reply

  -- what is made of a number and a configuration
  abbrev made : ℕ → Config → Flat
  made m config = record (created n) {
    services = rows fresh n ++ new_service m config (new_status 0x10) ∷ [];
    handles = handles_to n ++ record { number = n + 1 + 1; caller = 1; kind = kinds.Service m; granted = 0xF01FF } ∷ [];
    next = record { service = m + 1; handle = n + 1 + 1 + 1; process = 1; plan = 1; registration = 1; due = 1; caller = 2 };
  }

  made_is : made (n + 1) (created_config (created n) (nth_service (suc n))) ≡ created (suc n)
  made_is = ap (made (n + 1)) config_is ∙ (let next : n + 1 ≡ suc n = omega arith in rw next refl)

  pub creates : Goes l (created n) (creation_of (suc n) ∷ []) (created (suc n))
  creates = goes_one l (created n) (created (suc n)) (Call 1 new appended.Kept)
      (ap (λ code. tells_right (is_some (unless_refused code (create_change (created n) (nth_service (suc n))))) appended.Kept) verdict_is)
      refl
      (stepped l (created n) (Call 1 new appended.Kept) (record { answer = answer.Reply told; flat = created (suc n) }) (created (suc n))
      (created (suc n))
      (called_well l (created n) new appended.Kept verdict_is ∙ ap (λ g. record { answer = answer.Reply told; flat = g }) made_is)
      refl refl (all_stay (created (suc n)) fresh (suc n) refl refl))

narrower : (l : Limits) (n : ℕ) → IsWide l (suc n) → IsWide l n
narrower l n wide = record {
  small = (let h = wide.small in omega (arith, h));
  services = (let h = wide.services in omega (arith, h));
  handles = (let h = wide.handles in omega (arith, h));
  callers = wide.callers;
}

pub creates_all : (l : Limits) (n : ℕ) → IsWide l n → Goes l (created 0) (creations n) (created n)
creates_all l zero wide = goes_none l (created 0)
creates_all l (suc n) wide =
    goes_both l (created 0) (created n) (created (suc n)) (creations n) (creation_of (suc n) ∷ []) (creates_all l n (narrower l n wide))
    (creates l n wide)

-- ## Who joins, and opens the manager

abbrev joined : Flat
joined = record (created 0) {
  handles = [];
  next = record { service = 1; handle = 1; process = 1; plan = 1; registration = 1; due = 1; caller = 2 };
}

joins : (l : Limits) → IsWide l 0 → Goes l (opening l [] [] 0) (at_once (Joined Admin) ∷ []) joined
joins l wide = goes_one l (opening l [] [] 0) joined (Joined Admin) (ap (λ b. b && true) (lt-ltb 0 l.callers wide.callers)) refl refl

abbrev opens_it : Request
opens_it = request.OpenManager None 0x02000000

opens_verdict : (l : Limits) → IsWide l 0 → open_manager_verdict l joined 1 None 0x02000000 ≡ 0
opens_verdict l wide = all_pass (open_manager_refusals l joined 1 None 0x02000000)
    (refl, (refl, (refl, (lt-leb l.handles 0 (let h = wide.handles in omega (arith, h)), tt))))

opens_manager : (l : Limits) → IsWide l 0 → Goes l joined (call_now opens_it appended.NotAsked ∷ []) (created 0)
opens_manager l wide = goes_one l joined (created 0) (Call 1 opens_it appended.NotAsked) refl refl
    (stepped l joined (Call 1 opens_it appended.NotAsked) (record { answer = answer.Reply (reply.Handle 1 0); flat = created 0 })
    (created 0) (created 0)
    (called_well l joined opens_it appended.NotAsked (opens_verdict l wide)) refl refl (all_stay (created 0) fresh 0 refl refl))

pub begins : (l : Limits) → IsWide l 0 → Goes l (opening l [] [] 0) opening_calls (created 0)
begins l wide = goes_on l (opening l [] [] 0) joined (created 0) (Joined Admin) (call_now opens_it appended.NotAsked ∷ []) (joins l wide)
    (opens_manager l wide)
