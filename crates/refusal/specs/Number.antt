-- The number of each refusal, as the table of numbered answers gives it; 0 is a success. tools/tables writes the cases from refusals.txt.
use Rattle.std.specs.Prelude.{ℕ}
use Rattle.refusal.specs.declared.Refusal.{Refusal}
use Rattle.refusal.specs.declared.Refusal.TheVariants.{InputLength, ValueOver, RadiusOver, NumberOver, OutputLength, NoLine, OtherNumber, RowCount, NoBlock, ManyStarts, RegisterFull, RegisterShort, QuotientByZero, Template, UnknownKind, ImproperSheet, TrayUnfit, LineNotHeld, AddressOver, OneSided}

abbrev pub number_of : Refusal → ℕ
-- a line, ring or map of blots is not 63 long, a text is not 50 long, a sheet is not 3,969 long, its texts are not 2,600 long or its numbers not 52, a spool's length is no multiple of 63 or is over 16,065, a scan of brightnesses is not 378 long, or the length of a spool of them is no multiple of 378 or is over 96,390
number_of InputLength = 1
-- a character (a register's too) or field operand is over 63, a data row over 127, or a byte of a map over 1
number_of ValueOver = 2
-- radius over 5
number_of RadiusOver = 3
-- number over 4095
number_of NumberOver = 4
-- output length differs from the one stated, or is under 294 for panel text
number_of OutputLength = 5
-- no line within the radius; for ring reading, an empty list; with blots, no such line
number_of NoLine = 6
-- the line found has another number than the wanted one
number_of OtherNumber = 7
-- block rows outside 2..64, or data rows outside 1..63; with a smudge, not eight rows, or not seven data rows
number_of RowCount = 8
-- no proper block within one bit; with a smudge, none that differs inside one window of two by two cells alone
number_of NoBlock = 9
-- ring reading: two or more entries in the list
number_of ManyStarts = 10
-- a step is asked of a register that holds 52 characters, or anything of one whose count is above 52
number_of RegisterFull = 11
-- register holds fewer than 52
number_of RegisterShort = 12
-- quotient by zero
number_of QuotientByZero = 13
-- panel text: the kind is 1, a template
number_of Template = 14
-- panel text: the kind is over 1
number_of UnknownKind = 15
-- sheet reading: what the rounds leave is no proper sheet; it is written all the same, and the rounds are told
number_of ImproperSheet = 16
-- an open tray claims over 64 lines or a count above them; adding, where 64 are held; replacing and dropping, last, where the line has a character or sum over 63, or a sum not 0 at count 0
number_of TrayUnfit = 17
-- replacing: the line asked for is not there; dropping: no line is left
number_of LineNotHeld = 18
-- an address over 62
number_of AddressOver = 19
-- a scan of brightnesses in which no cell is dark, or none is bright
number_of OneSided = 20
