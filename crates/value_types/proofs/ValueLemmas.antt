-- The values of all types together.
use Rattle.std.proofs.Common.{ℤ, FitsSigned, arith}
use Rattle.std.proofs.lemmas.Int.{ints}
use Rattle.std.specs.Int.{w128}
use Rattle.value_types.specs.declared.values.PortType.{PortType}
use Rattle.value_types.specs.declared.values.PortType.TheVariants.{Int8, UInt8, Int16, UInt16, Int32, UInt32, Int64, UInt64, Boolean, Enumeration, Clock}
use Rattle.value_types.specs.Values.{Fits}

-- 128 bits hold the values of each type
pub FitsSigned-from_Fits : (kind : PortType) (value : ℤ) → Fits kind value → FitsSigned w128 value
FitsSigned-from_Fits Int8 value fits = omega (arith, ints)
FitsSigned-from_Fits UInt8 value fits = omega (arith, ints)
FitsSigned-from_Fits Int16 value fits = omega (arith, ints)
FitsSigned-from_Fits UInt16 value fits = omega (arith, ints)
FitsSigned-from_Fits Int32 value fits = omega (arith, ints)
FitsSigned-from_Fits UInt32 value fits = omega (arith, ints)
FitsSigned-from_Fits Int64 value fits = omega (arith, ints)
FitsSigned-from_Fits UInt64 value fits = omega (arith, ints)
FitsSigned-from_Fits Boolean value fits = omega (arith, ints)
FitsSigned-from_Fits Enumeration value fits = omega (arith, ints)
FitsSigned-from_Fits Clock value fits = omega (arith, ints)
