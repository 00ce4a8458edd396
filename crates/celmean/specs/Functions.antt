-- The functions (CEL language definition, "Functions" and "Type conversions"): any other call is the error.
use Rattle.std.specs.Prelude.{ℕ, pos, negsuc, if◌then◌else◌, List, [], ◌∷◌, codes, bytes_eq, length, decimal}
use Rattle.std.specs.Fmt.{signed_decimal}
use Rattle.celmean.specs.Value.{Value, Truth, Int, Uint, Text, Sequence, Mapping, items, entries, Outcome, Gives, Error, with_value}
use Rattle.celmean.specs.Arithmetic.{signed}
use Rattle.celmean.specs.Texts.{text_starts_with, text_ends_with, text_contains, text_size, signed_of_text, unsigned_of_text}

-- `size`: a text's code points, a list's items, a map's entries
abbrev pub size : Value → Outcome
size (Text s) = text_size s
size (Sequence vs) = signed (pos (length (items vs)))
size (Mapping es) = signed (pos (length (entries es)))
size _ = Error

-- `int`
abbrev pub to_int : Value → Outcome
to_int (Int n) = Gives (Int n)
to_int (Uint n) = signed (pos n)
to_int (Text s) = signed_of_text s
to_int _ = Error

-- `uint`
abbrev pub to_uint : Value → Outcome
to_uint (Uint n) = Gives (Uint n)
to_uint (Int (pos n)) = Gives (Uint n)
to_uint (Int (negsuc n)) = Error
to_uint (Text s) = unsigned_of_text s
to_uint _ = Error

-- `string`: numbers in decimal digits
abbrev pub to_string : Value → Outcome
to_string (Text s) = Gives (Text s)
to_string (Int n) = Gives (Text (signed_decimal n))
to_string (Uint n) = Gives (Text (decimal n))
to_string _ = Error

-- the function of a name with one argument
abbrev pub function : List ℕ → Value → Outcome
function f v =
    if bytes_eq f (codes "size") then size v
    else (if bytes_eq f (codes "int") then to_int v
    else (if bytes_eq f (codes "uint") then to_uint v
    else (if bytes_eq f (codes "string") then to_string v
    else (if bytes_eq f (codes "dyn") then Gives v else Error))))

-- `f(e)`
abbrev pub called : List ℕ → List Outcome → Outcome
called f (o ∷ []) = with_value (function f) o
called f _ = Error

-- `s.f(t)`, for two texts
abbrev pub text_test : List ℕ → List ℕ → List ℕ → Outcome
text_test f s t =
    if bytes_eq f (codes "contains") then Gives (Truth (text_contains s t))
    else (if bytes_eq f (codes "startsWith") then Gives (Truth (text_starts_with s t))
    else (if bytes_eq f (codes "endsWith") then Gives (Truth (text_ends_with s t)) else Error))

abbrev pub test_values : List ℕ → Value → Value → Outcome
test_values f (Text s) (Text t) = text_test f s t
test_values f _ _ = Error

abbrev pub size_method : List ℕ → Value → Outcome
size_method f v = if bytes_eq f (codes "size") then size v else Error

-- `e.f()` and `e.f(t)`
abbrev pub method_called : List ℕ → Outcome → List Outcome → Outcome
method_called f (Gives v) [] = size_method f v
method_called f (Gives v) (Gives w ∷ []) = test_values f v w
method_called f _ _ = Error
