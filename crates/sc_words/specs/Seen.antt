-- Where the calls stand, without where it lies in memory.
use Rattle.sc_words.specs.declared.calls.Stage.{Stage}
use Rattle.sc_words.specs.declared.calls.Stage.TheVariants as lent
use Rattle.sc_words.specs.Calls.{Standing, Asks, Failed, Done}

abbrev pub seen_standing : Stage → Standing
seen_standing (lent.Asks m) = Asks m
seen_standing (lent.Failed m h) = Failed m h.now
seen_standing lent.Done = Done
