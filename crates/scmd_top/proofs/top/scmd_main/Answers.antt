use Rattle.journal_store.specs.Compacting.{IsOnly}
use Rattle.scmd_top.specs.Files.{OpensFiles}
use Rattle.scmd_top.specs.Modes.{HasAllDoneAs, HasRunAs, LeavesWorld, SettlesKeeperAs, SettlesStoreAs, keeper_world}
use Rattle.scmd_top.specs.Sides.{ports_of, side, sides_of}
use Rattle.scmd_top.proofs.Named.{by_task, files_named, named, none_named}
use Rattle.scmd_top.proofs.top.scmd_main.Goals as goal

pub returns-in-Some : goal.returns-in-Some
returns-in-Some g c =
    let w = c.args.world in
    let w' = c.run_task.result.1 in
    let status = c.run_task.result.0 in
    let sides = sides_of g.I.Source.left g.I.Source.faults g.O.Sink.held g.O.Sink.faults g.K.Keeper.held g.K.Keeper.faults (keeper_world w)
    (keeper_world w') in
    let store = side g.Q.Keeper.held g.Q.Keeper.faults w.store w'.store in
    let ports = ports_of g.N.Listener.left g.N.Listener.accepted g.N.Listener.noted g.N.Listener.listened g.N.Listener.faults
    (keeper_world w) (keeper_world w') in
    let by = by_task c.args.words.now c.in-Some.task _ c.path_of.result c.store_of.result c.list_of.result c.task_of.ensures.task
    c.in-Some.is c.path_of.ensures c.store_of.ensures c.list_of.ensures in
    let are = named c.args.words.now c.in-Some.task _ c.path_of.result c.store_of.result c.list_of.result c.task_of.ensures.task c.in-Some.is
    c.path_of.ensures c.store_of.ensures c.list_of.ensures in
    record {
      done = record {
        words_are = none_named _ _ _ _ _ are status c.run_task.ensures.words;
        untouched = c.run_task.ensures.untouched;
        clock = c.run_task.ensures.clock;
        leaves = by (λ path groups mode. LeavesWorld path mode w w') c.run_task.ensures.leaves;
        files = files_named _ _ _ _ _ are (λ file store mode. OpensFiles mode file store (g.K.Keeper.asked w.keeper) (g.K.Keeper.asked w'.keeper)
            (g.Q.Keeper.asked w.store) (g.Q.Keeper.asked w'.store) status) c.run_task.ensures.files;
        settled = by (λ path groups mode. SettlesKeeperAs path mode (g.K.Keeper.settled w.keeper) (g.K.Keeper.faults w.keeper)
            (g.K.Keeper.faults w'.keeper) status (g.K.Keeper.settled w'.keeper)) c.run_task.ensures.keeper;
        stored = by (λ path groups mode. SettlesStoreAs mode (g.Q.Keeper.settled w.store) (g.Q.Keeper.faults w.store)
            (g.Q.Keeper.faults w'.store) status (IsOnly (g.Q.Keeper.held w'.store) (g.Q.Keeper.crashes w'.store).leaves)
            (g.Q.Keeper.settled w'.store)) c.run_task.ensures.store;
        input = c.run_task.ensures.input;
        output = c.run_task.ensures.output;
        run = by (λ path groups mode. HasRunAs (g.C.Clock.tells w.clock) path groups mode sides (g.K.Keeper.crashes w'.keeper) store
            (g.Q.Keeper.crashes w'.store) ports status)
            c.run_task.ensures.run;
        complete = by (λ path groups mode. HasAllDoneAs path mode sides store ports status) c.run_task.ensures.complete;
      };
    }
