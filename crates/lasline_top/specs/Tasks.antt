-- The task that the code has read, where turns end there.
use Rattle.network_core.specs.declared.stop.Stop.{Stop}
use Rattle.run_engine.specs.declared.engine.Engine.{Engine as Chosen}
use Rattle.run_engine.specs.declared.engine.Engine.TheVariants as chosen
use Rattle.lasline_top.specs.Words.{Engine, Queues, Whole, Task, Run_file, Plan_file, Make_file, Trial, Print}
use Rattle.lasline_top.specs.declared.words.Task.{Task as Read}
use Rattle.lasline_top.specs.declared.words.Task.TheVariants as read

abbrev pub engine_view : Stop → Chosen → Engine
engine_view stop (chosen.Queues shape) = Queues shape.chunk shape.queue stop
engine_view stop chosen.Whole = Whole

abbrev pub task_view : Stop → Read → Task
task_view stop (read.Run file engine) = Run_file file.now (engine_view stop engine)
task_view stop (read.Plan file) = Plan_file file.now
task_view stop (read.Generate count name) = Make_file count.points name.now
task_view stop (read.Trial count engine) = Trial count.points (engine_view stop engine)
task_view stop (read.Print page) = Print page.now
