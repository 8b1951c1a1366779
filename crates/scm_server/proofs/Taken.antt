-- What a pass has seen that took in those of the ticker, of the launcher and of both listeners.
use Rattle.std.proofs.Common.{◌≡◌, ◌∙◌, ℕ, Bool, true, false, cond, List, [], ◌∷◌, ◌++◌, length, sym, ap, subst}
use Rattle.std.specs.Prelude.{nat_lt}
use mathlib.Core.List.{IsPrefix}
use Rattle.scm_model.specs.Entries.{Entry}
use Rattle.scm_rules.specs.Histories.{Legal}
use Rattle.book_rule.specs.declared.view.Opening.{Opening}
use Rattle.book_rule.specs.Views.{longer}
use Rattle.book_rule.proofs.Prefixes.{prefix_length, prefix_self, prefix_snoc, prefix_trans, prefix_whole}
use Rattle.scm_book.specs.declared.fault.MakeFault.TheVariants as makes
use Rattle.scm_book.specs.declared.processes.TickEnd.{TickEnd}
use Rattle.scm_book.specs.declared.processes.TickEnd.TheVariants as ticks
use Rattle.scm_book.specs.Joins.{TakesIn, accompanied, fresh}
use Rattle.scm_book.specs.Passes.{Known}
use Rattle.scm_book.specs.Reporting.{TickEnds}
use Rattle.scm_launcher.specs.Past.{SeesOn}
use Rattle.scm_launcher.specs.Ticks.{Chain, TicksOn}
use Rattle.scm_server.specs.declared.ending.ServeEnd.{ServeEnd}
use Rattle.scm_server.specs.All.{EndsAll, GoesFor, ServedIn, TakesAll}
use Rattle.scm_server.specs.Ports.{GoesFar, Told, was_short}
use Rattle.scm_server.proofs.Far.{takes_legal}

-- a pass has seen more, and something legal
record SeesLegal (o : Opening) (k k' : Known) : Type 0 where
  longer : IsPrefix k.seen k'.seen
  legal : Legal o.limits o.first k.seen → Legal o.limits o.first k'.seen

module _ (tells : ℕ → Type 0) (o : Opening) where
  tick_longer : (k k' : Known) (moment : ℕ) (end : TickEnd) → TickEnds o k moment end k' → IsPrefix k.seen k'.seen
  tick_longer k k' moment ticks.Ticked e = subst (IsPrefix k.seen) (sym e.made.seen) (prefix_snoc k.seen e.made.before _ e.made.longer)
  tick_longer k k' moment ticks.Idle e = e.0.longer
  tick_longer k k' moment (ticks.Unmade makes.Full) e = e.0.learnt.longer
  tick_longer k k' moment (ticks.Unmade makes.OutOfMemory) e = e.0.learnt.longer

  tick_legal : (k k' : Known) (moment : ℕ) (end : TickEnd) → TickEnds o k moment end k' → Legal o.limits o.first k'.seen
  tick_legal k k' moment ticks.Ticked e = e.made.legal
  tick_legal k k' moment ticks.Idle e = e.0.legal
  tick_legal k k' moment (ticks.Unmade makes.Full) e = e.0.learnt.legal
  tick_legal k k' moment (ticks.Unmade makes.OutOfMemory) e = e.0.learnt.legal

  chain_far : (k k' : Known) (ends : List TickEnd) → Chain tells o k k' ends → SeesLegal o k k'
  chain_far k k' [] c = subst (λ (x : Known). SeesLegal o k x) (sym c) (record { longer = prefix_self k.seen; legal = λ so. so })
  chain_far k k' (end ∷ more) c =
      let rest : SeesLegal o c.0 k' = chain_far c.0 k' more c.2 in record {
        longer = prefix_trans k.seen c.0.seen k'.seen (tick_longer k c.0 c.1.moment end c.1.ends) rest.longer;
        legal = λ so. rest.legal (tick_legal k c.0 c.1.moment end c.1.ends);
      }

module _ (o : Opening) where
  either : (xs ys : List Entry) → IsPrefix xs ys → Legal o.limits o.first ys → (b : Bool) → IsPrefix ys (cond b ys xs)
      → Legal o.limits o.first (cond b ys xs)
  either xs ys is legal true that = legal
  either xs ys is legal false that = subst (Legal o.limits o.first) (sym (prefix_whole xs ys is (prefix_length ys xs that))) legal

  taken_legal : (by spent by' : Known) → TakesIn by spent by' → IsPrefix by.seen spent.seen → Legal o.limits o.first spent.seen
      → Legal o.limits o.first by'.seen
  taken_legal by spent by' takes is legal =
      let seen : by'.seen ≡ longer by.seen spent.seen = ap (λ (k : Known). k.seen) takes.same in
      subst (Legal o.limits o.first) (sym seen) (either by.seen spent.seen is legal (nat_lt (length by.seen) (length spent.seen))
      (subst (IsPrefix spent.seen) seen takes.that))

seen_alone : (by spent by' : Known) → TakesIn by spent by' → by' ≡ record by { seen = by'.seen }
seen_alone by spent by' takes = takes.same ∙ ap (λ (es : List Entry). record by { seen = es }) (sym (ap (λ (k : Known). k.seen) takes.same))

pub record AllSeen (o : Opening) (root both root' : Known) : Type 0 where
  pub goes : GoesFor o root root'
  pub within : IsPrefix both.seen root'.seen
  pub legal : Legal o.limits o.first root'.seen

pub all_seen : (tells : ℕ → Type 0) (o : Opening) (root by t0 t1 t2 t3 ln sv ticked launched both root' : Known) (moment : ℕ)
    (end : TickEnd) → by ≡ accompanied root → t0 ≡ fresh root → TickEnds o t0 moment end t1 → ln ≡ fresh t1 → t2 ≡ accompanied t1
    → sv ≡ fresh t2 → t3 ≡ accompanied t2 → TicksOn tells o t3 ticked → SeesOn o ln launched → GoesFar o sv both
    → TakesAll by ticked launched both root' → AllSeen o root both root'
all_seen tells o root by t0 t1 t2 t3 ln sv ticked launched both root' moment end is_by is_t0 ends is_ln is_t2 is_sv is_t3 ticks sees serves
    takes =
    let seen : Known → List Entry = λ (k : Known). k.seen in
    let at2 : t2.seen ≡ t1.seen = ap seen is_t2 in
    let at3 : t3.seen ≡ t1.seen = ap seen is_t3 ∙ at2 in
    let first : t0.seen ≡ by.seen = ap seen is_t0 ∙ sym (ap seen is_by) in
    let legal : Legal o.limits o.first t1.seen = tick_legal tells o t0 t1 moment end ends in
    let far : SeesLegal o t3 ticked = chain_far tells o t3 ticked (ticks.before ++ ticks.last ∷ []) ticks.chain in
    let legal_ticked : Legal o.limits o.first ticked.seen = far.legal (subst (Legal o.limits o.first) (sym at3) legal) in
    let legal_launched : Legal o.limits o.first launched.seen = sees.legal (subst (Legal o.limits o.first) (sym (ap seen is_ln)) legal) in
    let legal_both : Legal o.limits o.first both.seen = serves.legal (subst (Legal o.limits o.first) (sym (ap seen is_sv ∙ at2)) legal) in
    let behind : IsPrefix by.seen ticked.seen = subst (λ (es : List Entry). IsPrefix es ticked.seen) first
    (prefix_trans t0.seen t1.seen ticked.seen (tick_longer tells o t0 t1 moment end ends)
    (subst (λ (es : List Entry). IsPrefix es ticked.seen) at3 far.longer)) in
    let one : Legal o.limits o.first takes.one.seen = taken_legal o by ticked takes.one takes.first behind legal_ticked in
    let two : Legal o.limits o.first takes.two.seen = takes_legal o takes.one launched takes.two takes.second one legal_launched in
    let all : Legal o.limits o.first root'.seen = takes_legal o takes.two both root' takes.third two legal_both in
    let with : Known → Known = λ (k : Known). record k { seen = root'.seen } in
    let same : root' ≡ record root { seen = root'.seen; alone = false } =
    seen_alone takes.two both root' takes.third ∙ (ap with (seen_alone takes.one launched takes.two takes.second)
    ∙ (ap with (seen_alone by ticked takes.one takes.first) ∙ ap with is_by)) in
    let from : IsPrefix by.seen root'.seen = prefix_trans by.seen takes.one.seen root'.seen takes.first.this
    (prefix_trans takes.one.seen takes.two.seen root'.seen takes.second.this takes.third.this) in
    record {
      goes = record { same = same; longer = subst (λ (es : List Entry). IsPrefix es root'.seen) (ap seen is_by) from; legal = λ so. all };
      within = takes.third.that;
      legal = all;
    }

-- what is the same, said of what comes back
pub served_as : (tells : ℕ → Type 0) (o : Opening) (log : List Entry) (end end' : ServeEnd) (a a' a'' u u' u'' : Told) → end' ≡ end
    → a'' ≡ a' → u'' ≡ u' → ServedIn tells o log a a' u u' (was_short end) → ServedIn tells o log a a'' u u'' (was_short end')
served_as tells o log end end' a a' a'' u u' u'' is at_a at_u served =
    subst (λ (e : ServeEnd). ServedIn tells o log a a'' u u'' (was_short e)) (sym is)
    (subst (λ (t : Told). ServedIn tells o log a t u u'' (was_short end)) (sym at_a)
    (subst (λ (t : Told). ServedIn tells o log a a' u t (was_short end)) (sym at_u) served))

pub ends_as : (end end' : ServeEnd) (a a' a'' u u' u'' : Told) → end' ≡ end → a'' ≡ a' → u'' ≡ u' → EndsAll end a a' u u'
    → EndsAll end' a a'' u u''
ends_as end end' a a' a'' u u' u'' is at_a at_u ends =
    subst (λ (e : ServeEnd). EndsAll e a a'' u u'') (sym is) (subst (λ (t : Told). EndsAll end a t u u'') (sym at_a)
    (subst (λ (t : Told). EndsAll end a a' u t) (sym at_u) ends))
