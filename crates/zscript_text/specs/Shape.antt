-- The shape of a part, and of a multi: it is tested before any path or data is. Words are taken
-- from the left, as many as the verb needs, so `;` may be taken as a path or data.
use Rattle.std.specs.Prelude.{ℕ, zero, suc, nat_eq, nat_lt, nat_le, ◌&&◌, List, [], ◌∷◌, drop, codes, Option, None, Some, if◌then◌else◌}
use Rattle.std.specs.Option.{option_map, option_and_then}
use Rattle.std.specs.List.{starts_with}
use Rattle.std.specs.Str.{bytes_eq}
use Rattle.ztree.specs.declared.limits.TheConstants.{MAX_TTL}
use Rattle.zcalls.specs.declared.call.Kind.{Kind}
use Rattle.zcalls.specs.declared.call.Lifetime.TheVariants.{Persistent, WithTtl, Ephemeral, Container}
use Rattle.zcalls.specs.Part.{named, sequential}
use Rattle.zcalls.specs.declared.call.Expected.{Expected}
use Rattle.zcalls.specs.declared.call.Expected.TheVariants.{Any, Exactly}
use Rattle.zscript_text.specs.declared.part_words.PartWords.{PartWords}
use Rattle.zscript_text.specs.declared.part_words.PartWords.TheVariants.{Change, Check}
use Rattle.zscript_text.specs.declared.part_words.ChangeWords.{ChangeWords}
use Rattle.zscript_text.specs.declared.part_words.ChangeWords.TheVariants.{Create, Delete, SetData}
use Rattle.zscript_text.specs.LineWords.{Word, number_of}

-- the number of ticks, if it is a valid TTL
abbrev pub in_ttl_range : ℕ → Option ℕ
in_ttl_range ticks = if nat_lt 0 ticks && nat_le ticks MAX_TTL then Some ticks else None

-- the TTL that a word spells
abbrev pub ttl_of : Word → Option ℕ
ttl_of word = option_and_then in_ttl_range (number_of word)

-- a kind with a TTL: `t:` or `ts:`, then the ticks
abbrev pub timed_kind_of : Word → Option Kind
timed_kind_of word =
    if starts_with nat_eq word (codes "t:") then option_map (λ ttl. named (WithTtl ttl)) (ttl_of (drop 2 word)) else
    if starts_with nat_eq word (codes "ts:") then option_map (λ ttl. sequential (WithTtl ttl)) (ttl_of (drop 3 word)) else
    None

-- an ephemeral kind: `e:` or `es:`, then the session's id; else a kind with a TTL
abbrev pub owned_kind_of : Word → Option Kind
owned_kind_of word =
    if starts_with nat_eq word (codes "e:") then option_map (λ session. named (Ephemeral session)) (number_of (drop 2 word)) else
    if starts_with nat_eq word (codes "es:") then option_map (λ session. sequential (Ephemeral session)) (number_of (drop 3 word)) else
    timed_kind_of word

-- the kind of node that a word names
unfoldable pub kind_of : Word → Option Kind
kind_of word =
    if bytes_eq word (codes "p") then Some (named Persistent) else
    if bytes_eq word (codes "ps") then Some (sequential Persistent) else
    if bytes_eq word (codes "c") then Some (named Container) else
    owned_kind_of word

-- the expected version that a word names
abbrev pub version_of : Word → Option Expected
version_of word = if bytes_eq word (codes "any") then Some Any else option_map Exactly (number_of word)

-- something, and the remaining words
abbrev pub Shape : Type 0 → Type 0
Shape A = Option (A × List Word)

-- create PATH KIND DATA
abbrev pub create_shape : List Word → Shape ChangeWords
create_shape (path ∷ (kind ∷ (bytes ∷ words))) = option_map (λ kind. (Create path kind bytes, words)) (kind_of kind)
create_shape words = None

-- delete PATH VERSION
abbrev pub delete_shape : List Word → Shape ChangeWords
delete_shape (path ∷ (version ∷ words)) = option_map (λ version. (Delete path version, words)) (version_of version)
delete_shape words = None

-- set PATH VERSION DATA
abbrev pub set_shape : List Word → Shape ChangeWords
set_shape (path ∷ (version ∷ (bytes ∷ words))) =
    option_map (λ version. (SetData path version bytes, words)) (version_of version)
set_shape words = None

-- check PATH VERSION
abbrev pub check_shape : List Word → Shape PartWords
check_shape (path ∷ (version ∷ words)) = option_map (λ version. (Check path version, words)) (version_of version)
check_shape words = None

-- a change: its verb, and the words that it needs
abbrev pub change_shape : Word → List Word → Shape ChangeWords
change_shape verb words =
    if bytes_eq verb (codes "create") then create_shape words else
    if bytes_eq verb (codes "delete") then delete_shape words else
    if bytes_eq verb (codes "set") then set_shape words else
    None

-- a change as a part of a multi
abbrev pub as_part : Shape ChangeWords → Shape PartWords
as_part shape = option_map (λ (change, words). (Change change, words)) shape

-- a part: its verb, and the words that it needs
abbrev pub part_shape : Word → List Word → Shape PartWords
part_shape verb words =
    if bytes_eq verb (codes "check") then check_shape words else as_part (change_shape verb words)

-- something, if no word remains
abbrev pub lone_shape : {A : Type 0} → Shape A → Option A
lone_shape None = None
lone_shape (Some (shape, [])) = Some shape
lone_shape (Some (shape, word ∷ words)) = None

-- a part, then the parts of the remaining words if `;` is between
abbrev pub and_parts : Shape PartWords → (List Word → Option (List PartWords)) → Option (List PartWords)
and_parts None next = None
and_parts (Some (part, [])) next = Some (part ∷ [])
and_parts (Some (part, word ∷ words)) next =
    if bytes_eq word (codes ";") then option_map (λ parts. part ∷ parts) (next words) else None

-- the parts in these words: at least one, and at most the given number
unfoldable pub parts_shape : ℕ → List Word → Option (List PartWords)
parts_shape zero words = None
parts_shape (suc room) [] = None
parts_shape (suc room) (verb ∷ words) = and_parts (part_shape verb words) (parts_shape room)
