-- Two listeners' connections, in a history that goes on from what was seen.
use Rattle.std.proofs.Common.{◌≡◌, ◌∙◌, ℕ, Bool, false, List, Option, refl, sym, ap, subst, inl, inr}
use mathlib.Core.List.{IsPrefix}
use Rattle.scm_model.specs.declared.flat.Principal.TheVariants.{Admin, User}
use Rattle.scm_model.specs.Entries.{Entry}
use Rattle.scm_rules.specs.Histories.{Legal}
use Rattle.scm_rules.specs.Opening.{IsOpening}
use Rattle.book_rule.specs.declared.view.Opening.{Opening}
use Rattle.book_rule.proofs.Prefixes.{prefix_trans}
use Rattle.scm_book.specs.Joins.{TakesIn}
use Rattle.scm_book.specs.Passes.{Known}
use Rattle.scm_server.specs.declared.ending.ServeEnd.{ServeEnd}
use Rattle.scm_server.specs.declared.ending.ServeEnd.TheVariants.{Ended, ListenFault, OutOfMemory}
use Rattle.scm_server.specs.All.{EndsAll, ServedIn, of_both}
use Rattle.scm_server.specs.Handling.{Handed, IsHandled, IsHandledAs, StandsForIt}
use Rattle.scm_server.specs.Pairs.{Each}
use Rattle.scm_server.specs.Ports.{Apart, EndsFor, IsOver, ServesPort, Told, was_short}
use Rattle.scm_server.proofs.Callers.{one_principal}
use Rattle.scm_server.proofs.Cases.{handled_still}
use Rattle.scm_server.proofs.Lists.{pairwise_both}

-- what is so in a history is so in each one that goes on from it
pub served_still : (tells : ℕ → Type 0) (o : Opening) (log later : List Entry) (a a' u u' : Told) (is_short : Bool)
    → IsOpening o.limits o.first → IsPrefix log later → Legal o.limits o.first later
    → ServedIn tells o log a a' u u' is_short → ServedIn tells o later a a' u u' is_short
served_still tells o log later a a' u u' is_short begins is legal served = record {
  admins = served.admins;
  users = served.users;
  admin = served.admin;
  user = served.user;
  handled_admin = λ quiet h there. handled_still tells o begins Admin log later is legal h h.caller (served.handled_admin quiet h there);
  handled_user = λ quiet h there. handled_still tells o begins User log later is legal h h.caller (served.handled_user quiet h there);
  apart = served.apart;
}

module _ (tells : ℕ → Type 0) (o : Opening) (begins : IsOpening o.limits o.first) where
  -- no caller joined as both
  apart_so : (log : List Entry) → Legal o.limits o.first log → (g h : Handed) → IsHandled tells o log Admin g → IsHandled tells o log User h
      → Apart g h
  apart_so log legal g h first other caller one two =
      let admin : StandsForIt tells o log Admin g caller = subst (λ (c : Option ℕ). IsHandledAs tells o log Admin g c) one first in
      let user : StandsForIt tells o log User h caller = subst (λ (c : Option ℕ). IsHandledAs tells o log User h c) two other in
      one_principal o begins log legal tells g h caller admin user

  pub served_both : (log one two : List Entry) → Legal o.limits o.first log → IsPrefix one log → IsPrefix two log
      → (a a' u u' : Told) (s t : Bool) → ServesPort tells o Admin one a a' s → ServesPort tells o User two u u' t
      → (b : Bool) → (b ≡ false → (s ≡ false) × (t ≡ false)) → ServedIn tells o log a a' u u' b
  served_both log one two legal is_one is_two a a' u u' s t admin user b quiet =
      let first : s ≡ false → Each (IsHandled tells o log Admin) admin.handed =
      λ so h there. handled_still tells o begins Admin one log is_one legal h h.caller (admin.handled so h there) in
      let other : t ≡ false → Each (IsHandled tells o log User) user.handed =
      λ so h there. handled_still tells o begins User two log is_two legal h h.caller (user.handled so h there) in
      record {
        admins = admin.handed;
        users = user.handed;
        admin = admin.hands;
        user = user.hands;
        handled_admin = λ so. first (quiet so).0;
        handled_user = λ so. other (quiet so).1;
        apart = λ so. pairwise_both Apart admin.handed user.handed admin.apart user.apart
            (λ g at h there. apart_so log legal g h (first (quiet so).0 g at) (other (quiet so).1 h there));
      }

-- ## Ends

over_for : (end : ServeEnd) (l l' : Told) → EndsFor end l l' → IsOver l l'
over_for Ended l l' ends = inl ends
over_for ListenFault l l' ends = inr ends
over_for OutOfMemory l l' ends = ends

pub ends_both : (x y : ServeEnd) (a a' u u' : Told) → EndsFor x a a' → EndsFor y u u' → EndsAll (of_both x y) a a' u u'
ends_both OutOfMemory y a a' u u' one other = (one, over_for y u u' other)
ends_both ListenFault OutOfMemory a a' u u' one other = (inr one, other)
ends_both ListenFault ListenFault a a' u u' one other = ((inr one, inr other), inl one)
ends_both ListenFault Ended a a' u u' one other = ((inr one, inl other), inl one)
ends_both Ended OutOfMemory a a' u u' one other = (inl one, other)
ends_both Ended ListenFault a a' u u' one other = ((inl one, inr other), inr other)
ends_both Ended Ended a a' u u' one other = (one, other)

pub quiet_both : (x y : ServeEnd) → was_short (of_both x y) ≡ false → (was_short x ≡ false) × (was_short y ≡ false)
quiet_both OutOfMemory y quiet = absurd cc
quiet_both ListenFault OutOfMemory quiet = absurd cc
quiet_both ListenFault ListenFault quiet = (refl, refl)
quiet_both ListenFault Ended quiet = (refl, refl)
quiet_both Ended OutOfMemory quiet = absurd cc
quiet_both Ended ListenFault quiet = (refl, refl)
quiet_both Ended Ended quiet = (refl, refl)

pub ends_so : (end : ServeEnd) (x y : ServeEnd) (a a' a'' u u' u'' : Told) → end ≡ of_both x y → a'' ≡ a' → u'' ≡ u' → EndsFor x a a'
    → EndsFor y u u' → EndsAll end a a'' u u''
ends_so end x y a a' a'' u u' u'' is at_a at_u one other =
    subst (λ (e : ServeEnd). EndsAll e a a'' u u'') (sym is) (subst (λ (t : Told). EndsAll (of_both x y) a t u u'') (sym at_a)
    (subst (λ (t : Told). EndsAll (of_both x y) a a' u t) (sym at_u) (ends_both x y a a' u u' one other)))

pub served_so : (tells : ℕ → Type 0) (o : Opening) → IsOpening o.limits o.first → (one two by' : Known) → TakesIn two one by'
    → (end x y : ServeEnd) (a a' a'' u u' u'' : Told) → end ≡ of_both x y → a'' ≡ a' → u'' ≡ u'
    → ServesPort tells o Admin one.seen a a' (was_short x) → ServesPort tells o User two.seen u u' (was_short y) → (log : List Entry)
    → IsPrefix by'.seen log → Legal o.limits o.first log → ServedIn tells o log a a'' u u'' (was_short end)
served_so tells o begins one two by' takes end x y a a' a'' u u' u'' is at_a at_u admin user log within legal =
    let first : IsPrefix one.seen log = prefix_trans one.seen by'.seen log takes.that within in
    let other : IsPrefix two.seen log = prefix_trans two.seen by'.seen log takes.this within in
    subst (λ (t : Told). ServedIn tells o log a t u u'' (was_short end)) (sym at_a)
    (subst (λ (t : Told). ServedIn tells o log a a' u t (was_short end)) (sym at_u)
    (served_both tells o begins log one.seen two.seen legal first other a a' u u' (was_short x) (was_short y) admin user (was_short end)
    (λ quiet. quiet_both x y (ap was_short (sym is) ∙ quiet))))
