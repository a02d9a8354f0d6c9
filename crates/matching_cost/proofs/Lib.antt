mod Spent
