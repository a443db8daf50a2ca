-- What a frame stops for.
use Rattle.hx_code.specs.declared.word.Ask.{Ask}
use Rattle.hx_code.specs.declared.word.Ask.TheVariants.{Goes, Loads, Stores, Prints, Faults, Calls, Enters, Turns, Leaves, Returns}
use Rattle.hx_code.specs.declared.word.Output.TheVariants.{Number, Byte}
use Rattle.hx_code.specs.Local.{LocalWant, LocalAsks, LocalStuck}
use Rattle.hx_speculation.specs.Frame.{Need as Needed}
use Rattle.hx_frame.specs.declared.action.Action.{Action}
use Rattle.hx_frame.specs.declared.action.Action.TheVariants.{Print, Emit, Fault, TurnEnd, Leave, Return, None}
use Rattle.hx_frame.specs.declared.action.Stop.{Stop}
use Rattle.hx_frame.specs.declared.action.Stop.TheVariants.{NeedLoad, NeedStore, NeedHead, Limit}
use Rattle.hx_frame.specs.declared.action.Need.{Need}
use Rattle.hx_frame.specs.declared.action.Need.TheVariants.{Nothing, ForLoad, ForStore, ForHead, Held}

-- what a word waits with
abbrev pub action_for : Ask → Action
action_for (Prints (Number v) at) = Print v
action_for (Prints (Byte b) at) = Emit b
action_for (Faults fault) = Fault fault
action_for Turns = TurnEnd
action_for Leaves = Leave
action_for (Enters r t) = Leave
action_for (Returns v) = Return v
action_for Goes = None
action_for (Loads a) = None
action_for (Stores a v) = None
action_for (Calls f at) = None

abbrev pub action_in : LocalWant → Action
action_in LocalStuck = None
action_in (LocalAsks ask l) = action_for ask

-- the stop that tells what is needed
abbrev pub stop_for : Need → Stop
stop_for Nothing = Limit
stop_for (ForLoad a next) = NeedLoad a
stop_for (ForStore a v next) = NeedStore a v
stop_for (ForHead ask next) = NeedHead (action_for ask)
stop_for Held = NeedHead None

-- what is needed, in the words of the definition
abbrev pub need_of : Need → Needed
need_of Nothing = Needed.Nothing
need_of (ForLoad a next) = Needed.ForLoad a
need_of (ForStore a v next) = Needed.ForStore a v
need_of (ForHead ask next) = Needed.ForHead
need_of Held = Needed.Held
