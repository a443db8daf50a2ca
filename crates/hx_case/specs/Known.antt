-- What a name of the code stands for.
use Rattle.hx_tree.specs.View.{global_of, func_of}
use Rattle.hx_case.specs.Names as spec
use Rattle.hx_case.specs.Names.{Declared}
use Rattle.hx_case.specs.declared.declared.Known.{Known}
use Rattle.hx_case.specs.declared.declared.Known.TheVariants as known

abbrev pub known_of : Known → Declared
known_of (known.Global g) = spec.Global (global_of g.now)
known_of (known.Function f) = spec.Function (func_of f.now)
