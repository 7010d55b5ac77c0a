-- The number of each refusal.
use Rattle.std.specs.Prelude.{ℕ}
use Rattle.lang.specs.declared.refusal.Refusal.{Refusal}
use Rattle.lang.specs.declared.refusal.Refusal.TheVariants.{ShortMemory, BadSheet, TextTooLong, BadByte, NameTooLong, NumberTooLarge, Unexpected, NestTooDeep, TooManyNodes, NotVisible, NameTwice, WrongSort, WrongCount, ScopesTooDeep, TooManyNames, RunOpen, NoRule, NoRun, BadEntry, TooManyFrames, TooManySlots, ChainTooDeep, NoSuchSlot}

abbrev pub number : Refusal → ℕ
number ShortMemory = 1
number BadSheet = 2
number TextTooLong = 3
number BadByte = 4
number NameTooLong = 5
number NumberTooLarge = 6
number Unexpected = 7
number NestTooDeep = 8
number TooManyNodes = 9
number NotVisible = 10
number NameTwice = 11
number WrongSort = 12
number WrongCount = 13
number ScopesTooDeep = 14
number TooManyNames = 15
number RunOpen = 16
number NoRule = 17
number NoRun = 18
number BadEntry = 19
number TooManyFrames = 23
number TooManySlots = 24
number ChainTooDeep = 27
number NoSuchSlot = 28
