-- Parts one after the other, where one of them fails or none does.
use Rattle.std.proofs.Common.{◌≡◌, ℕ, List, Option, Ok, refl, subst, ◌∙◌}
use Rattle.scm_model.specs.declared.flat.Action.{Action}
use Rattle.scm_model.specs.declared.calls.Info.TheVariants as info
use Rattle.ndr_body.specs.declared.fault.BodyFault.{BodyFault}
use Rattle.ndr_body.specs.Reading.{◌>>=◌, Fails, text_at}
use Rattle.scm_shapes.specs.declared.levels.FailureHead.{FailureHead}
use Rattle.scm_shapes.specs.Parts.{Reads, then_at, both_at, made_at, unkept_at, if_at}
use Rattle.scm_shapes.specs.Levels.{failure_head_at, failure_tail_at, actions_at, failure_info, failure_at}
use Rattle.scm_shapes.proofs.Loop.{fails_on}

module _ {A B : Type 0} (first_at : Reads A) (second_at : A → Reads B) (body : List ℕ) (place : ℕ) where
  then_ok : (a : A) (p : ℕ) (b : B) (q : ℕ) → first_at body place ≡ Ok (a, p) → second_at a body p ≡ Ok (b, q)
      → then_at first_at second_at body place ≡ Ok ((a, b), q)
  then_ok a p b q one two = rw (one, two) refl

  first_fails : (e : BodyFault) → Fails e (first_at body place) → Fails e (then_at first_at second_at body place)
  first_fails e h = fails_on e (first_at body place) (λ first. second_at first.0 body first.1 >>= λ second. Ok
      ((first.0, second.0), second.1)) h

  second_fails : (a : A) (p : ℕ) (e : BodyFault) → first_at body place ≡ Ok (a, p) → Fails e (second_at a body p)
      → Fails e (then_at first_at second_at body place)
  second_fails a p e one h = rw one (fails_on e (second_at a body p) (λ second. Ok ((a, second.0), second.1)) h)

made_fails : {A B : Type 0} (make : A → B) (read_at : Reads A) (body : List ℕ) (place : ℕ) (e : BodyFault) → Fails e (read_at body place)
    → Fails e (made_at make read_at body place)
made_fails make read_at body place e h = fails_on e (read_at body place) (λ x. Ok (make x.0, x.1)) h

-- ## Failure actions, read from a body that stays the same

module _ (body b1 : List ℕ) (place : ℕ) (head : FailureHead) (p1 p2 : ℕ) where
  abbrev reboot_at : Reads (Unit {0})
  reboot_at = unkept_at (if_at head.reboot text_at)

  abbrev command_at : Reads (Option (List ℕ))
  command_at = if_at head.command text_at

  abbrev listed_at : Reads (Option (List Action))
  listed_at = if_at head.listed (actions_at head.count)

  pub command_fails : (b2 : List ℕ) (e : BodyFault) → b1 ≡ body → b2 ≡ b1 → failure_head_at body place ≡ Ok (head, p1)
      → reboot_at b1 p1 ≡ Ok (tt, p2) → Fails e (command_at b2 p2) → Fails e (failure_at body place)
  unfolding failure_at
  command_fails b2 e same1 same2 one two h =
      let skipped : reboot_at body p1 ≡ Ok (tt, p2) = subst (λ (b : List ℕ). reboot_at b p1 ≡ Ok (tt, p2)) same1 two in
      let failed : Fails e (command_at body p2) = subst (λ (b : List ℕ). Fails e (command_at b p2)) (same2 ∙ same1) h in
      made_fails failure_info (then_at failure_head_at failure_tail_at) body place e
      (second_fails failure_head_at failure_tail_at body place head p1 e one
      (second_fails reboot_at (λ (kept : Unit {0}). both_at command_at listed_at) body p1 tt p2 e skipped
      (first_fails command_at (λ (command : Option (List ℕ)). listed_at) body p2 e failed)))

  pub actions_fail : (b2 b3 : List ℕ) (command : Option (List ℕ)) (p3 : ℕ) (e : BodyFault) → b1 ≡ body → b2 ≡ b1 → b3 ≡ b2
      → failure_head_at body place ≡ Ok (head, p1) → reboot_at b1 p1 ≡ Ok (tt, p2) → command_at b2 p2 ≡ Ok (command, p3)
      → Fails e (listed_at b3 p3) → Fails e (failure_at body place)
  unfolding failure_at
  actions_fail b2 b3 command p3 e same1 same2 same3 one two three h =
      let skipped : reboot_at body p1 ≡ Ok (tt, p2) = subst (λ (b : List ℕ). reboot_at b p1 ≡ Ok (tt, p2)) same1 two in
      let named : command_at body p2 ≡ Ok (command, p3) = subst (λ (b : List ℕ). command_at b p2 ≡ Ok (command, p3)) (same2
      ∙ same1) three in
      let failed : Fails e (listed_at body p3) = subst (λ (b : List ℕ). Fails e (listed_at b p3)) (same3 ∙ same2 ∙ same1) h in
      made_fails failure_info (then_at failure_head_at failure_tail_at) body place e
      (second_fails failure_head_at failure_tail_at body place head p1 e one
      (second_fails reboot_at (λ (kept : Unit {0}). both_at command_at listed_at) body p1 tt p2 e skipped
      (second_fails command_at (λ (command : Option (List ℕ)). listed_at) body p2 command p3 e named failed)))

  pub failure_whole : (b2 b3 : List ℕ) (command : Option (List ℕ)) (p3 : ℕ) (actions : Option (List Action)) (p4 : ℕ) → b1 ≡ body → b2 ≡ b1
      → b3 ≡ b2 → failure_head_at body place ≡ Ok (head, p1) → reboot_at b1 p1 ≡ Ok (tt, p2)
      → command_at b2 p2 ≡ Ok (command, p3) → listed_at b3 p3 ≡ Ok (actions, p4)
      → failure_at body place ≡ Ok (info.Failure head.reset command actions, p4)
  unfolding failure_at
  failure_whole b2 b3 command p3 actions p4 same1 same2 same3 one two three four =
      let skipped : reboot_at body p1 ≡ Ok (tt, p2) = subst (λ (b : List ℕ). reboot_at b p1 ≡ Ok (tt, p2)) same1 two in
      let named : command_at body p2 ≡ Ok (command, p3) = subst (λ (b : List ℕ). command_at b p2 ≡ Ok (command, p3)) (same2
      ∙ same1) three in
      let listed : listed_at body p3 ≡ Ok (actions, p4) = subst (λ (b : List ℕ). listed_at b p3 ≡ Ok (actions, p4)) (same3 ∙ same2
      ∙ same1) four in
      let both = then_ok command_at (λ (command : Option (List ℕ)). listed_at) body p2 command p3 actions p4 named listed in
      let tail = then_ok reboot_at (λ (kept : Unit {0}). both_at command_at listed_at) body p1 tt p2 (command, actions) p4 skipped both in
      rw (then_ok failure_head_at failure_tail_at body place head p1 (tt, (command, actions)) p4 one tail) refl
