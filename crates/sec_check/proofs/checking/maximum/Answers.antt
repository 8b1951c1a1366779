use Rattle.std.proofs.Common.{◌∙◌, ap, arith, drop, sym}
use Rattle.sec_desc.specs.declared.layout.AceHeader.{AceHeader}
use Rattle.sec_check.proofs.Forward.{at_first, header_there, is_within, never_missing, none_left, turn}
use Rattle.sec_check.proofs.checking.maximum.Goals as goal

pub loop-init : goal.loop-init
loop-init c = record {
  within = omega arith;
  left = at_first c.args.principal c.args.count c.args.entries.now (λ i. omega (arith, c.type_inv.entries i)) c.requires;
}

pub loop-preserved : goal.loop-preserved
loop-preserved c =
    let rest = c.from_place-rest.result.now in
    let there = header_there rest c.in-Some.entry c.in-Some.ensures in
    let size = ap (λ (h : AceHeader). h.size) there.1 in
    record {
      within = is_within c.loop.at c.in-Some.entry.size c.args.entries.now rest c.loop.invariant.within c.from_place-rest.ensures there.0
          size;
      left = turn c.args.principal c.args.count c.loop.counter c.loop.at c.in-Some.entry.size c.args.entries.now rest c.loop.so_far
          c.with_entry-so_far.result _
          (λ i. omega (arith, c.type_inv.entries i)) c.from_place-rest.ensures c.loop-test.true size c.with_entry-so_far.ensures
          c.loop.invariant.left;
    }

pub returns : goal.returns
returns c = none_left c.args.principal c.args.count c.loop.counter
    (drop c.loop.at c.args.entries.now) c.loop.so_far _ c.loop-test.false c.loop.invariant.left

pub unreachable-requires : goal.unreachable-requires
unreachable-requires c =
    never_missing c.args.principal c.args.count c.loop.counter c.loop.at c.args.entries.now c.from_place-rest.result.now c.loop.so_far _
    (λ i. omega (arith, c.type_inv.entries i)) c.from_place-rest.ensures c.loop-test.true
    (sym c.in_default.is ∙ c.read_ace_header.ensures) c.loop.invariant.left

pub overflow_add-at : goal.overflow_add-at
overflow_add-at c =
    let rest = c.from_place-rest.result.now in
    let there = header_there rest c.in-Some.entry c.in-Some.ensures in
    let within = is_within c.loop.at c.in-Some.entry.size c.args.entries.now rest c.loop.invariant.within c.from_place-rest.ensures
    there.0 (ap (λ (h : AceHeader). h.size) there.1) in
    omega arith
