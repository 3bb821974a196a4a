-- What a path is: a list of names, each a list of bytes. The source is the ZooKeeper Programmer's
-- Guide, section "The ZooKeeper Data Model". Paths are absolute, without control characters, and no
-- name is `.` or `..`. The word `zookeeper` is reserved. Allowing only visible ASCII, and the
-- limits, are this project's own profile.
use Rattle.std.specs.Prelude.{◌≡◌, ℕ, ◌<◌, ◌≤◌, Bool, false, ◌&&◌, ◌||◌, not, ◌==◌, nat_le, nat_lt, List, [], ◌∷◌, ◌++◌, length, codes}
use Rattle.std.specs.List.{list_any, flat_map, AllByRecursion}
use Rattle.std.specs.Str.{bytes_eq}
use Rattle.std.specs.declared.cmp.Ordering.{Ordering}
use Rattle.std.specs.Ordering.{nat_cmp}
use Rattle.std.specs.Cmp.Lexicographic.{slice_cmp}
use Rattle.zpath.specs.declared.limits.TheConstants.{MAX_NAME_LEN, MAX_TEXT_LEN, MAX_DEPTH}

-- a visible ASCII byte other than a slash
abbrev pub is_name_byte : ℕ → Bool
is_name_byte byte = nat_le 0x21 byte && nat_le byte 0x7e && not (byte == 47)

-- the name has no bytes
abbrev pub is_empty : List ℕ → Bool
is_empty name = length name == 0

-- the name is `.` or `..`
abbrev pub is_dots : List ℕ → Bool
is_dots name = bytes_eq name (codes ".") || bytes_eq name (codes "..")

-- some byte of the name isn't allowed in a name
abbrev pub has_bad_byte : List ℕ → Bool
has_bad_byte name = list_any (λ byte. not (is_name_byte byte)) name

-- the name is longer than `MAX_NAME_LEN` bytes
abbrev pub is_long : List ℕ → Bool
is_long name = nat_lt MAX_NAME_LEN (length name)

-- the text is longer than `MAX_TEXT_LEN` bytes
abbrev pub is_long_text : List ℕ → Bool
is_long_text text = nat_lt MAX_TEXT_LEN (length text)

-- there are more than `MAX_DEPTH` names
abbrev pub is_deep : List (List ℕ) → Bool
is_deep names = nat_lt MAX_DEPTH (length names)

-- the first name is `zookeeper`, which is reserved for the service
abbrev pub is_reserved : List (List ℕ) → Bool
is_reserved [] = false
is_reserved (name ∷ names) = bytes_eq name (codes "zookeeper")

-- a name: 1 to `MAX_NAME_LEN` visible bytes without a slash, and neither `.` nor `..`
pub record IsName (name : List ℕ) : Type 0 where
  pub filled : 0 < length name
  pub no_dots : is_dots name ≡ false
  pub visible : has_bad_byte name ≡ false
  pub short : length name ≤ MAX_NAME_LEN

-- a slash followed by the name
abbrev pub segment_of : List ℕ → List ℕ
segment_of name = 47 ∷ name

-- the text of a path: a slash for the root, else each name with a slash before it
abbrev pub text_of : List (List ℕ) → List ℕ
text_of [] = 47 ∷ []
text_of (name ∷ names) = flat_map segment_of (name ∷ names)

-- a path: names within the limits of depth and text length, and the first isn't reserved
pub record IsPath (path : List (List ℕ)) : Type 0 where
  pub names : AllByRecursion IsName path
  pub short : length (text_of path) ≤ MAX_TEXT_LEN
  pub shallow : length path ≤ MAX_DEPTH
  pub unreserved : is_reserved path ≡ false

-- the text is the text of some path
abbrev pub IsTextOfPath : List ℕ → Type 0
IsTextOfPath text = (path : List (List ℕ)) × IsPath path × (text ≡ text_of path)

-- the name is the last one of the path
abbrev pub EndsWith : List (List ℕ) → List ℕ → Type 0
EndsWith path name = (front : List (List ℕ)) × (path ≡ front ++ name ∷ [])

-- the names are those of the path without its last one
abbrev pub IsFrontOf : List (List ℕ) → List (List ℕ) → Type 0
IsFrontOf path front = (name : List ℕ) × (path ≡ front ++ name ∷ [])

-- names are ordered by their bytes
abbrev pub name_cmp : List ℕ → List ℕ → Ordering
name_cmp = slice_cmp nat_cmp

-- paths are ordered name by name
abbrev pub path_cmp : List (List ℕ) → List (List ℕ) → Ordering
path_cmp = slice_cmp name_cmp
