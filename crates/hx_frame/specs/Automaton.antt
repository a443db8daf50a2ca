-- An iteration of valid code, as one that asks for one thing at a time.
use Rattle.hx_tree.specs.declared.outcome.FaultKind.TheVariants.{TextFull}
use Rattle.hx_code.specs.declared.word.Ask.{Ask}
use Rattle.hx_code.specs.declared.word.Ask.TheVariants.{Goes, Loads, Stores, Prints, Faults, Calls, Enters, Turns, Leaves, Returns}
use Rattle.hx_code.specs.Code.{CodeView}
use Rattle.hx_code.specs.Call.{fault_at, bytes_of}
use Rattle.hx_code.specs.Local.{LocalView, LocalWant, LocalAsks, LocalStuck, asks_of, loaded}
use Rattle.hx_speculation.specs.Iteration.{Ask as Asked}

-- what a word asks, where it goes on in l. `asks_of` has done the calls, and inside a region asks for none to be opened
abbrev pub asked_as : Ask → LocalView → Asked LocalView
asked_as Goes l = Asked.Goes l
asked_as (Loads a) l = Asked.Loads a (λ v. loaded v l)
asked_as (Stores a v) l = Asked.Stores a v l
asked_as (Prints output at) l = Asked.Prints (bytes_of output) l (fault_at TextFull at)
asked_as (Faults fault) l = Asked.Faults fault
asked_as (Calls f at) l = Asked.Goes l
asked_as (Enters r t) l = Asked.Leaves
asked_as Turns l = Asked.TurnEnds
asked_as Leaves l = Asked.Leaves
asked_as (Returns v) l = Asked.Returns v

-- a stuck word, which valid code has none of, stays where it is
abbrev pub asked_by : LocalView → LocalWant → Asked LocalView
asked_by l LocalStuck = Asked.Goes l
asked_by l (LocalAsks ask m) = asked_as ask m

abbrev pub ask_in : CodeView → LocalView → Asked LocalView
ask_in code l = asked_by l (asks_of code l)
