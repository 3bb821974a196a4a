-- What a clause says of a seat of a halt, and of a look at it.
use Rattle.std.specs.Prelude.{◌≡◌, ℕ}
use Rattle.std.specs.Int.{bit_at}
use Rattle.zchannels.specs.declared.halts.Halt.{Halt}
use Rattle.zchannels.specs.declared.halts.HaltSeat.{HaltSeat}
use Rattle.zchannels.specs.declared.looks.Look.{Look}

-- the bits that the seat has set or seen, as one number
abbrev pub known_of : HaltSeat → ℕ
known_of h = h.seat.me.0.bits

-- how many parts the halt has: that many seats have one part each
abbrev pub all_parts : Halt → ℕ
all_parts t = t.table.shared.key

-- the seat has set or seen bit s
abbrev pub Knows : HaltSeat → ℕ → Type 0
Knows h s = bit_at (known_of h) s ≡ 1

-- the seat is one of this halt
abbrev pub IsSeatOf : Halt → HaltSeat → Type 0
IsSeatOf t h = h.seat.table_id ≡ t.table.shared.table_id

-- the bits that a look found set, as one number
abbrev pub found_by : Look → ℕ
found_by l = l.found

-- the look found bit s set
abbrev pub Found : Look → ℕ → Type 0
Found l s = bit_at (found_by l) s ≡ 1
