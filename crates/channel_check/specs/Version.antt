-- The version of the calls and of their structs: 10000 major + 100 minor + patch, as the header and the file VERSION have it. Assumes nothing.
use Rattle.std.specs.Prelude.{ℕ, ◌+◌, ◌*◌}

abbrev pub version : ℕ
version = 10000 * 1 + 100 * 1 + 0
