-- What trouble with a file is told as.
use Rattle.dp_accept.specs.declared.trouble.PlantTrouble.{PlantTrouble}
use Rattle.dp_accept.specs.declared.trouble.PlantTrouble.TheVariants as plant
use Rattle.dp_app.specs.declared.fault.Fault.{Fault}
use Rattle.dp_app.specs.declared.fault.Fault.TheVariants.{Read, Long, BadPlant, GainsRefused, BadScript, Memory}
use Rattle.dp_app.specs.declared.fault.File.TheVariants.{Plant, Script}
use Rattle.dp_app.specs.declared.script_file.ScriptTrouble.{ScriptTrouble}
use Rattle.dp_app.specs.declared.script_file.ScriptTrouble.TheVariants as script

abbrev pub plant_fault : PlantTrouble → Fault
plant_fault plant.Read = Read Plant
plant_fault plant.Memory = Memory
plant_fault plant.Long = Long Plant
plant_fault (plant.Plant why) = BadPlant why
plant_fault (plant.Gains why) = GainsRefused why

abbrev pub script_fault : ScriptTrouble → Fault
script_fault script.Read = Read Script
script_fault script.Memory = Memory
script_fault script.Long = Long Script
script_fault (script.Line line kind) = BadScript line kind
