-- What tests build their values with.
use Rattle.std.specs.Prelude.{ℕ, [], List, false, filter}
use Rattle.std.specs.Prelude.{nat_lt}
use Rattle.scm_model.specs.declared.flat.Action.{Action}
use Rattle.scm_model.specs.declared.flat.Config.{Config}

-- the units of a text in ASCII; a 0 is left out
abbrev pub units_of : List ℕ → List ℕ
units_of ascii = filter (nat_lt 0) ascii

abbrev pub restart_after : ℕ → Action
restart_after delay = record { what = 1; delay = delay }

-- a configuration without texts and needs, of a service that a call starts and that has a process of its own
abbrev pub unnamed : Config
unnamed = record {
  name = [];
  display = [];
  kind = 0x10;
  start = 3;
  error = 1;
  path = [];
  group = [];
  tag = 0;
  needs = [];
  description = [];
  reset = 0;
  actions = [];
  command = [];
  on_exit = false;
  delayed = false;
  triggers = [];
}
