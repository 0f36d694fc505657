-- The limits of the paper, each once ("The sheet file", "Expansion", "Refusal table").
-- Assumes nothing.
use Rattle.std.specs.Prelude.{ℕ, ◌+◌, ◌*◌, ◌^◌}

-- The sheet file: at most 8,192 bytes and 512 rows; numbers 0 to 511; sheets 0 to 31; boards 0 to 15.
abbrev pub text_most : ℕ
text_most = 8192

abbrev pub rows_most : ℕ
rows_most = 512

abbrev pub number_most : ℕ
number_most = 511

abbrev pub sheets : ℕ
sheets = 32

abbrev pub boards : ℕ
boards = 16

-- A block, and a walk, has at most 256 messages.
abbrev pub messages_most : ℕ
messages_most = 256

-- Level 8 is allowed, and a call made there is not; a walk makes at most 1,024 calls.
abbrev pub levels : ℕ
levels = 8

abbrev pub calls_most : ℕ
calls_most = 1024

-- Request (c): a walk meets at most 8 A rows, so that a file has at most 256 choice lists.
abbrev pub choices_most : ℕ
choices_most = 8

abbrev pub lists_most : ℕ
lists_most = 2 ^ choices_most

-- The codes are 0 to 5.
abbrev pub channels : ℕ
channels = 6

-- The relation "before" has a row for each event, of eight words with 64 events each.
abbrev pub row_words : ℕ
row_words = 8

-- The buffers lent: the relation alone is in the scratch, 4,096 words (requests (d), (n)); a trace of 1,536 bytes, two for each of three steps a
-- message.
abbrev pub scratch_least : ℕ
scratch_least = 2 * messages_most * row_words

abbrev pub trace_least : ℕ
trace_least = 2 * (3 * messages_most)

-- The output lent for a cured sheet: 8,192 bytes, as many as a sheet file may have.
abbrev pub sheet_output_least : ℕ
sheet_output_least = text_most

-- The output lent for the course of two taps: 512 numbers.
abbrev pub tap_numbers_least : ℕ
tap_numbers_least = 512

-- The output lent for the messages of a sheet: three numbers for each of the most messages.
abbrev pub message_numbers_least : ℕ
message_numbers_least = 3 * messages_most

-- The table of permitted senders: at most 64 rules; a set of boards is a number 0 to 65,535; 16 times 16 pairs of boards.
abbrev pub rules_most : ℕ
rules_most = 64

abbrev pub set_most : ℕ
set_most = 65535

abbrev pub pairs : ℕ
pairs = boards * boards

-- a verdict is 1, permitted, or 0
abbrev pub verdict_most : ℕ
verdict_most = 1

-- The dispatcher: at most eight jobs, each with a place of its own, and 65,536 numbers for them.
abbrev pub jobs_most : ℕ
jobs_most = 8

abbrev pub job_numbers : ℕ
job_numbers = 65536

-- its words: 4,096 a place
abbrev pub job_words_least : ℕ
job_words_least = jobs_most * scratch_least

-- a job of n messages is answered on its turn 2n + 1, so within 4,104 turns of all jobs
abbrev pub turns_most : ℕ
turns_most = jobs_most * (2 * messages_most + 1)
