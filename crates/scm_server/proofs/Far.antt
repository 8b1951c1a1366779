-- How far passes have seen.
use Rattle.std.proofs.Common.{◌≡◌, ◌∙◌, Bool, true, false, cond, List, length, refl, sym, ap, subst}
use Rattle.std.specs.Prelude.{nat_lt}
use Rattle.scm_model.specs.Entries.{Entry}
use Rattle.scm_rules.specs.Histories.{Legal}
use Rattle.book_rule.specs.declared.view.Opening.{Opening}
use Rattle.book_rule.specs.Views.{longer}
use Rattle.book_rule.proofs.Prefixes.{prefix_self, prefix_trans}
use Rattle.scm_book.specs.Joins.{TakesIn, Watches, accompanied, fresh}
use Rattle.scm_book.specs.Passes.{Known}
use Rattle.scm_server.specs.Ports.{GoesFar}

module _ (o : Opening) where
  pub far_self : (by : Known) → GoesFar o by by
  far_self by = record { same = refl; longer = prefix_self by.seen; legal = λ so. so }

  pub far_trans : (a b c : Known) → GoesFar o a b → GoesFar o b c → GoesFar o a c
  far_trans a b c first then = record {
    same = then.same ∙ ap (λ (k : Known). record k { seen = c.seen; alone = c.alone }) first.same;
    longer = prefix_trans a.seen b.seen c.seen first.longer then.longer;
    legal = λ so. then.legal (first.legal so);
  }

  same_but : (by by' : Known) (seen : List Entry) (alone : Bool) → by' ≡ record by { seen = seen; alone = alone }
      → by' ≡ record by { seen = by'.seen; alone = by'.alone }
  same_but by by' seen alone is = is ∙ (λ i. record by {
    seen = (sym (ap (λ (k : Known). k.seen) is)) i;
    alone = (sym (ap (λ (k : Known). k.alone) is)) i;
  })

  pub far_watched : (by by' : Known) → Watches o by by' → GoesFar o by by'
  far_watched by by' watches = record {
    same = watches.same;
    longer = watches.longer;
    legal = λ so. watches.legal;
  }

  legal_either : (xs ys : List Entry) → Legal o.limits o.first xs → Legal o.limits o.first ys → (b : Bool)
      → Legal o.limits o.first (cond b ys xs)
  legal_either xs ys first then true = then
  legal_either xs ys first then false = first

  pub takes_legal : (by spent by' : Known) → TakesIn by spent by' → Legal o.limits o.first by.seen → Legal o.limits o.first spent.seen
      → Legal o.limits o.first by'.seen
  takes_legal by spent by' takes first then =
      subst (Legal o.limits o.first) (sym (ap (λ (k : Known). k.seen) takes.same)) (legal_either by.seen spent.seen first
      then (nat_lt (length by.seen) (length spent.seen)))

  pub far_taken : (by spent by' : Known) → TakesIn by spent by' → (Legal o.limits o.first by.seen → Legal o.limits o.first spent.seen)
      → GoesFar o by by'
  far_taken by spent by' takes legal = record {
    same = same_but by by' (longer by.seen spent.seen) by.alone takes.same;
    longer = takes.this;
    legal = λ so. takes_legal by spent by' takes so (legal so);
  }

  -- a pass that has made another, seen more, and taken that one in
  pub both_far : (pass one two by' : Known) → GoesFar o (fresh pass) one → GoesFar o (accompanied pass) two → TakesIn two one by'
      → GoesFar o pass by'
  both_far pass one two by' first other takes =
      let seen : by' ≡ record two { seen = by'.seen; alone = by'.alone } =
      same_but two by' (longer two.seen one.seen) two.alone takes.same in
      let all : by' ≡ record pass { seen = by'.seen; alone = by'.alone } = seen
      ∙ ap (λ (k : Known). record k { seen = by'.seen; alone = by'.alone }) other.same in
      record {
        same = all;
        longer = prefix_trans pass.seen two.seen by'.seen other.longer takes.this;
        legal = λ so. takes_legal two one by' takes (other.legal so) (first.legal so);
      }
