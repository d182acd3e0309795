-- What the check leaves of `leb128::reader::decode`.
use Rattle.leb128.proofs.Writing.{group_fits_wide}
use Rattle.leb128.proofs.Loop.{reads_start, reads_end, reads_long, reads_more, shift_fits, shift_small, next_fits, whole_asked, whole_read, bits_left, last_asked, last_read}
use Rattle.leb128.proofs.reader.decode.Goals as goal

pub loop-shift-init : goal.loop-shift-init
loop-shift-init c = search reads_start

pub returns-then-s-i : goal.returns-then-s-i
returns-then-s-i c = search reads_end

pub overflow_cast-v : goal.overflow_cast-v
overflow_cast-v c = search group_fits_wide

pub overflow_cast-v-in-loop-shift : goal.overflow_cast-v-in-loop-shift
overflow_cast-v-in-loop-shift c = search shift_fits

pub overflow_shl-v : goal.overflow_shl-v
overflow_shl-v c = search shift_small

pub whole-requires : goal.whole-requires
whole-requires c = search whole_asked

pub returns-then-b-lt128 : goal.returns-then-b-lt128
returns-then-b-lt128 c = search whole_read

pub overflow_add-shift-in-loop-shift : goal.overflow_add-shift-in-loop-shift
overflow_add-shift-in-loop-shift c = search next_fits

pub loop-shift-preserved : goal.loop-shift-preserved
loop-shift-preserved c = search reads_more

pub returns-then-s-i-2 : goal.returns-then-s-i-2
returns-then-s-i-2 c = search reads_end

pub returns-then-b-ge128 : goal.returns-then-b-ge128
returns-then-b-ge128 c = search reads_long

pub overflow_sub-bits : goal.overflow_sub-bits
overflow_sub-bits c = search bits_left

pub last-requires : goal.last-requires
last-requires c = search last_asked

pub returns : goal.returns
returns c = search last_read
