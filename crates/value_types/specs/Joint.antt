-- What a connection asks of the types of its ends (SSP 1.0, connections: the types of both connectors are compatible).
use Rattle.std.specs.Prelude.{◌≡◌, ◌≢◌, ℤ}
use Rattle.value_types.specs.declared.values.PortType.{PortType}
use Rattle.value_types.specs.declared.values.PortType.TheVariants.{Int8, UInt8, Int16, UInt16, Int32, UInt32, Int64, UInt64, Boolean, Enumeration, Clock}
use Rattle.value_types.specs.declared.joint.Class.{Class}
use Rattle.value_types.specs.declared.joint.Class.TheVariants as class
use Rattle.value_types.specs.declared.joint.Joint.{Joint}
use Rattle.value_types.specs.declared.joint.Joint.TheVariants.{Fit, WrongType, WrongRange}
use Rattle.value_types.specs.Values.{Fits}

-- the class of a type: SSP has one type for the eight integer types
abbrev pub class_of : PortType → Class
class_of Int8 = class.Integer
class_of UInt8 = class.Integer
class_of Int16 = class.Integer
class_of UInt16 = class.Integer
class_of Int32 = class.Integer
class_of UInt32 = class.Integer
class_of Int64 = class.Integer
class_of UInt64 = class.Integer
class_of Boolean = class.Boolean
class_of Enumeration = class.Enumeration
class_of Clock = class.Clock

-- each value of the one type is one of the other
abbrev pub IsWithin : PortType → PortType → Type 0
IsWithin from to = (value : ℤ) → Fits from value → Fits to value

-- how an output of the first type and an input of the second go together
abbrev pub Joins : PortType → PortType → Joint → Type 0
Joins from to Fit = (class_of from ≡ class_of to) × IsWithin from to
Joins from to WrongType = class_of from ≢ class_of to
Joins from to WrongRange = (class_of from ≡ class_of to) × ¬ IsWithin from to
