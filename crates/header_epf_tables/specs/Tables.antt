-- The fields of the EPF bundle that fill an array (Specification 5.6, 5.7): a custom bit, then the array if the bit is 1, otherwise its defaults.
use Rattle.std.specs.Prelude.{Bool, true, List, Float}
use Rattle.header_bits.specs.Bits.{yes}
use Rattle.header_fields.specs.Fields.{Fields, bits, halves, bundle}

-- `present`: the custom bit is in the stream
unfoldable pub sharp_fields : Bool → List Float → Fields (List Float)
sharp_fields present defaults =
    bits present 1 0 λ custom.
    halves (yes custom) defaults λ lut.
    bundle lut

unfoldable pub custom_scale_fields : Bool → List Float → Fields (List Float)
custom_scale_fields custom defaults =
    halves custom defaults λ scale.
    bits custom 32 0 λ ignored.
    bundle scale

unfoldable pub scale_fields : List Float → Fields (List Float)
scale_fields defaults =
    bits true 1 0 λ custom.
    custom_scale_fields (yes custom) defaults
