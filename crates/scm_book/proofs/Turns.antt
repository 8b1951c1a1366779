-- What a commit asks of what the holder has, and what it tells.
use Rattle.std.proofs.Common.{◌≡◌, ℕ, inl, inr, true, List, [], ◌∷◌, ◌++◌, length, Option, None, Some, Box, sym, ◌∙◌, subst}
use Rattle.std.specs.List.{last_or}
use Rattle.std.specs.declared.alloc.Global.{Global}
use Rattle.atomic_table.specs.declared.shared.Seat.{Seat}
use Rattle.scm_model.specs.declared.steps.Answer.{Answer}
use Rattle.scm_model.specs.declared.steps.Name.{Name}
use Rattle.scm_model.specs.declared.steps.Step.{Step}
use Rattle.scm_model.specs.Entries.{Entry, with_kept}
use Rattle.scm_trail.proofs.Histories.{extended_last}
use Rattle.scm_rules.specs.Histories.{answer}
use Rattle.book_rule.specs.declared.view.Opening.{Opening}
use Rattle.book_rule.specs.declared.view.View.{View}
use Rattle.book_rule.specs.Ways.{Follows, Has, NamesOwn, Protocol}
use Rattle.book_rule.specs.Seats.{Identity, Commits}
use Rattle.scm_book.specs.Ghosts.{Ghosts}
use Rattle.scm_book.specs.declared.held.Held.{Held}
use Rattle.scm_book.specs.declared.held.Owed.{Owed}
use Rattle.scm_book.specs.Naming.{all_names}
use Rattle.scm_book.specs.Holds.{Holds, Runs, way_of}
use Rattle.scm_book.specs.Passes.{room_behind}
use Rattle.scm_book.specs.Steps.{Adds, Makes, owed_step}
use Rattle.scm_book.specs.declared.fault.MakeFault.{MakeFault}
use Rattle.scm_book.specs.declared.fault.MakeFault.TheVariants as makes
use Rattle.scm_book.specs.Steps.{Why as NotMade}
use Rattle.scm_book.specs.Turns.{Did, DidSo, MakeCause}
use Rattle.scm_book.proofs.Following.{follows}
use Rattle.scm_book.proofs.Standing.{added_holds, added_runs, made_free, made_holds, made_runs, may_then, room_same, told_then}
use Rattle.scm_book.proofs.Room.{named_kept, owed_is}

-- what a commit asks of what the holder has
pub record Stands {K : Type 0} (w : Protocol (Held K)) (b : Identity) (v : View) (h : Held K) : Type 0 where
  pub entry : Entry
  pub last : last_or None h.trail.entries ≡ Some entry
  pub names : NamesOwn w v.names entry
  pub follows : Follows w b.opening v.seen entry
  pub fits : w.fits b.opening (v.seen ++ entry ∷ []) h

module _ {K : Type 0} (ghosts : Ghosts K) (b : Identity) (v : View) (h h' : Held K)
    (holds : Holds ghosts b.opening v.seen h) (runs : Runs b.opening v.seen) (moment : ℕ) where
  module _ (owed : Owed) (told : Answer) (adds : Adds h h' moment (owed_step owed) told) where
    pub end_added : last_or None h'.trail.entries ≡ Some (moment, owed_step owed)
    end_added = extended_last h.trail h'.trail (moment, owed_step owed) adds.grows.trail

    pub stands_added : ((n : Name) → Has n (all_names (owed_step owed)) → Has n v.names) → Stands (way_of ghosts) b v h'
    stands_added own =
        let there : Holds ghosts b.opening (v.seen ++ (moment, owed_step owed) ∷ []) h' =
        added_holds ghosts b.opening v.seen h holds h' moment owed told runs adds in record {
          entry = (moment, owed_step owed);
          last = end_added;
          names = own;
          follows = follows ghosts b.opening v.seen (moment, owed_step owed) runs
              (may_then ghosts b.opening v.seen h holds h' moment (owed_step owed) told adds.grows) (inl (owed_is owed));
          fits = there;
        }

    pub did_add : (s s' : Seat (Option (Box (Held K) Global)) View) → s.me.0 ≡ v → s'.table_id ≡ s.table_id
        → Commits (way_of ghosts) b s s' (moment, owed_step owed)
        → Did (way_of ghosts) b s s' moment (owed_step owed) told
    did_add s s' is table commits = record {
      table = table;
      me = commits.me;
      run = subst (λ (x : View). Runs b.opening (x.seen ++ (moment, owed_step owed) ∷ [])) (sym is)
          (added_runs ghosts b.opening v.seen h holds h' moment owed told runs adds);
      answer = subst (λ (x : View). answer b.opening.limits b.opening.first (x.seen ++ (moment, owed_step owed) ∷ [])
          (length x.seen) ≡ Some told) (sym is)
          (told_then ghosts b.opening v.seen h holds h' moment (owed_step owed) told adds.grows);
      claims = commits.claims;
    }

  module _ (step : Step) (told : Answer) (made : Makes ghosts h h' moment step told) where
    pub end_made : last_or None h'.trail.entries ≡ Some (moment, with_kept step made.append)
    end_made = extended_last h.trail h'.trail (moment, with_kept step made.append) made.grows.trail

    pub stands_made : ((n : Name) → Has n (all_names step) → Has n v.names) → Stands (way_of ghosts) b v h'
    stands_made own =
        let now : Step = with_kept step made.append in
        let there : Holds ghosts b.opening (v.seen ++ (moment, now) ∷ []) h' =
        made_holds ghosts b.opening v.seen h holds h' moment step told runs made in record {
          entry = (moment, now);
          last = end_made;
          names = λ n has. own n (subst (λ (ns : List Name). Has n ns) (named_kept step made.append) has);
          follows = follows ghosts b.opening v.seen (moment, now) runs
              (may_then ghosts b.opening v.seen h holds h' moment now told made.grows)
              (inr (made_free ghosts b.opening v.seen h holds h' moment step told runs made));
          fits = there;
        }

    pub did_make : (s s' : Seat (Option (Box (Held K) Global)) View) → s.me.0 ≡ v → s'.table_id ≡ s.table_id
        → Commits (way_of ghosts) b s s' (moment, with_kept step made.append)
        → DidSo (way_of ghosts) b s s' moment step told
    did_make s s' is table commits =
        let now : Step = with_kept step made.append in record {
          append = made.append;
          did = record {
            table = table;
            me = commits.me;
            run = subst (λ (x : View). Runs b.opening (x.seen ++ (moment, now) ∷ [])) (sym is)
                (made_runs ghosts b.opening v.seen h holds h' moment step told runs made);
            answer = subst (λ (x : View). answer b.opening.limits b.opening.first (x.seen ++ (moment, now) ∷ [])
                (length x.seen) ≡ Some told) (sym is)
                (told_then ghosts b.opening v.seen h holds h' moment now told made.grows);
            claims = commits.claims;
          };
          free = subst (λ (x : View). room_behind b.opening x.seen step ≡ true) (sym is)
              (sym (room_same ghosts b.opening v.seen h holds step) ∙ made.free);
        }

-- why a step wasn't made
pub why_same : {K : Type 0} (ghosts : Ghosts K) (o : Opening) (log : List Entry)
    (h : Held K)
    (holds : Holds ghosts o log h) (step : Step) (fault : MakeFault)
    → NotMade h step fault → MakeCause o log step fault
why_same ghosts o log h holds step makes.Full is = sym (room_same ghosts o log h holds step) ∙ is
why_same ghosts o log h holds step makes.OutOfMemory is = sym (room_same ghosts o log h holds step) ∙ is
