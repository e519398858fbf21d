-- What may be the name of a node.
use Rattle.std.specs.Prelude.{◌≡◌, ℕ, nat_le, nat_eq, Bool, true, false, ◌&&◌, ◌||◌, List, [], ◌∷◌, length}
use Rattle.std.specs.List.{list_all}
use Rattle.esx_events.specs.declared.name.TheConstants.{MAX_NAME}

abbrev pub is_lower : ℕ → Bool
is_lower b = nat_le 97 b && nat_le b 122

-- small letters, digits, '_' and '-'
abbrev pub is_name_byte : ℕ → Bool
is_name_byte b = is_lower b || (nat_le 48 b && nat_le b 57) || nat_eq b 95 || nat_eq b 45

abbrev pub starts_lower : List ℕ → Bool
starts_lower [] = false
starts_lower (b ∷ bs) = is_lower b

-- 1 to `MAX_NAME` of them, of which the first is a letter
abbrev pub is_name : List ℕ → Bool
is_name bs = starts_lower bs && nat_le (length bs) MAX_NAME && list_all is_name_byte bs

abbrev pub IsName : List ℕ → Type 0
IsName bs = is_name bs ≡ true
